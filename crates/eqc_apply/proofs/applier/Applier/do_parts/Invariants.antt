use Rattle.eqc_apply.specs.Extending.{Extends}
use Rattle.eqc_apply.proofs.applier.Applier.do_parts.Given as goal

abbrev pub invariant-loop-level : goal.invariant-loop-level
invariant-loop-level g l = record {
  names : Extends l.fn.self.names l.self.names;
}
