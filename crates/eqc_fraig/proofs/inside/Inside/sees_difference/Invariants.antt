use Rattle.std.proofs.Common.{◌≡◌}
use Rattle.eqc_fraig.proofs.inside.Inside.sees_difference.Given as goal

abbrev pub invariant-loop-output : goal.invariant-loop-output
invariant-loop-output l = l.self ≡ l.initial.self
