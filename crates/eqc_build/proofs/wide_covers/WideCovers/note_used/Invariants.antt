use Rattle.std.proofs.Common.{◌≡◌}
use Rattle.eqc_build.proofs.wide_covers.WideCovers.note_used.Given as goal

abbrev pub invariant-loop-k : goal.invariant-loop-k
invariant-loop-k l = l.self ≡ l.initial.self
