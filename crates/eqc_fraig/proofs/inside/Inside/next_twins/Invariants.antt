use Rattle.std.proofs.Common.{◌≡◌}
use Rattle.eqc_fraig.proofs.inside.Inside.next_twins.Given as goal

abbrev pub invariant-loop-output : goal.invariant-loop-output
invariant-loop-output g l = l.self ≡ l.initial.self
