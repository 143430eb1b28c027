use Rattle.eqc_apply.specs.Extending.{Extends}
use Rattle.eqc_apply.proofs.applier.Applier.take_late.Given as goal

abbrev pub invariant-loop-level : goal.invariant-loop-level
invariant-loop-level l = record {
  names : Extends l.fn.self.names l.self.names;
}
