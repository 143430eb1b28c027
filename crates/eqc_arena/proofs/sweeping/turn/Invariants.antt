use Rattle.std.proofs.Common.{◌*◌, ◌^◌, ◌≤◌, []}
use Rattle.eqc_arena.specs.Changing.{Exchanges}
use Rattle.eqc_arena.proofs.sweeping.turn.Given as goal

abbrev pub invariant-loop-passed : goal.invariant-loop-passed
invariant-loop-passed g l = record {
  few : l.taken ≤ l.passed * 2 ^ 21;
  changes : Exchanges [] [] l.fn.worker l.worker;
}
