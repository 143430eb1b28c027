use Rattle.std.proofs.Common.{ℕ, ◌*◌, ◌^◌, ◌≤◌, []}
use Rattle.eqc_arena.specs.Changing.{Exchanges}
use Rattle.eqc_arena.specs.Emptying.{IsBetween, IsFrom}
use Rattle.eqc_arena.proofs.collecting.turn.Given as goal

abbrev pub invariant-loop-stripe : goal.invariant-loop-stripe
invariant-loop-stripe g l = record {
  few : l.taken ≤ l.stripe * 2 ^ 21;
  changes : Exchanges [] [] l.fn.worker l.worker;
  tries : (n : ℕ) → IsFrom n l.fn.worker.known → IsBetween [] n l.stripe l.taken l.worker.known;
}
