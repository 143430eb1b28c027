use Rattle.std.proofs.Common.{[]}
use Rattle.eqc_arena.specs.Changing.{Exchanges}
use Rattle.eqc_arena.specs.Unboxing.{AreUnboxed}
use Rattle.eqc_arena.proofs.boxes.empty_boxes.Given as goal

abbrev pub invariant-loop-b : goal.invariant-loop-b
invariant-loop-b l = record {
  changes : Exchanges [] [] l.initial.worker l.worker;
  empty : AreUnboxed l.b l.initial.worker.known l.worker.known;
}
