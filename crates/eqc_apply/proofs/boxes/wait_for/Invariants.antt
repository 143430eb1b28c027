use Rattle.std.proofs.Common.{[]}
use Rattle.eqc_arena.specs.Changing.{Exchanges}
use Rattle.eqc_arena.specs.Unboxing.{KeepsMarks}
use Rattle.eqc_apply.proofs.boxes.wait_for.Given as goal

abbrev pub invariant-loop : goal.invariant-loop
invariant-loop g l = record {
  changes : Exchanges [] [] l.fn.worker l.worker;
  marks : KeepsMarks l.fn.worker.known.core l.worker.known.core;
}
