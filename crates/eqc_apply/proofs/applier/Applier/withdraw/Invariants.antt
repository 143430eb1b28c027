use Rattle.std.specs.Vec.{vec_len}
use Rattle.eqc_arena.specs.Unboxing.{KeepsMarks}
use Rattle.eqc_apply.specs.Extending.{Extends}
use Rattle.eqc_apply.proofs.applier.Applier.withdraw.Given as goal

abbrev pub invariant-loop-level : goal.invariant-loop-level
invariant-loop-level l = record {
  names : Extends l.fn.self.names l.self.names;
  marks : KeepsMarks l.fn.self.names.worker.known.core l.self.names.worker.known.core;
}

abbrev pub decreases-loop-level : goal.decreases-loop-level
decreases-loop-level l = vec_len l.self.offers
