use Rattle.std.proofs.Common.{◌≡◌, ◌<◌, ℕ, None}
use Rattle.eqc_compare.specs.Comparing.{told_at}
use Rattle.eqc_compare.proofs.alike.are_all_settled.Given as goal

abbrev pub invariant-loop-output : goal.invariant-loop-output
invariant-loop-output l = (k : ℕ) → k < l.output → told_at l.fn.pair k ≡ None
