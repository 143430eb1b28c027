use Rattle.std.proofs.Common.{ℕ, ◌+◌, ◌^◌, ◌≤◌, [], length}
use Rattle.eqc_guard.specs.Locking.{MayHome}
use Rattle.eqc_arena.specs.Changing.{Changes}
use Rattle.eqc_arena.specs.Emptying.{IsBetween, IsTrying}
use Rattle.eqc_arena.proofs.collecting.take_stripe.Given as goal

abbrev pub invariant-loop-i : goal.invariant-loop-i
invariant-loop-i g l = record {
  home : MayHome l.worker.known.core l.stripe l.map.entries;
  left : l.i ≤ length l.map.entries;
  few : l.taken + l.i ≤ 2 ^ 20;
  changes : Changes [] [] l.worker.known.core.hand l.fn.worker.known.core.draft l.fn.worker
      l.worker;
  tries : (n taken : ℕ) → IsBetween [] n l.stripe taken l.fn.worker.known
      → IsTrying [] n l.stripe (taken + l.taken) l.i l.map.entries l.worker.known;
}
