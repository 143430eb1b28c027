use Rattle.eqc_guard.specs.Known.{IsHeld}
use Rattle.eqc_apply.specs.Extending.{Extends}
use Rattle.eqc_apply.proofs.applier.Applier.do_part.Given as goal

abbrev pub invariant-loop-level : goal.invariant-loop-level
invariant-loop-level g l = record {
  names : Extends l.fn.self.names l.self.names;
  first : IsHeld l.self.names.worker.known.core l.next.0;
  second : IsHeld l.self.names.worker.known.core l.next.1;
}
