use Rattle.std.proofs.Common.{ℕ, ◌<◌, ◌≤◌, get_or}
use Rattle.eqc_core.specs.Words.{times}
use Rattle.eqc_core.proofs.multiset.are_held.Given as goal

abbrev pub invariant-loop-x : goal.invariant-loop-x
invariant-loop-x l = (k : ℕ) → k < l.x-index → 2 ≤ get_or l.names k 0
    → times (get_or l.names k 0) l.names ≤ times (get_or l.names k 0) l.held
