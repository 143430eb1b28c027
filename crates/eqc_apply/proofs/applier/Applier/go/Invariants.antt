use Rattle.std.proofs.Common.{◌+◌}
use Rattle.eqc_plain.specs.Tasks.{Leads, owed_all, work}
use Rattle.eqc_guard.specs.Known.{IsHeld}
use Rattle.eqc_apply.specs.Extending.{Extends}
use Rattle.eqc_apply.specs.Meaning.{meaning_in}
use Rattle.eqc_apply.proofs.applier.Applier.go.Given as goal

abbrev pub invariant-turns : goal.invariant-turns
invariant-turns g l = record {
  names : Extends l.fn.self.names l.self.names;
  leads : Leads (meaning_in l.self.names) l.op l.self.tasks.items l.f l.g l.next.0 l.next.1;
  first : IsHeld l.self.names.worker.known.core l.next.0;
  second : IsHeld l.self.names.worker.known.core l.next.1;
}

abbrev pub decreases-turns : goal.decreases-turns
decreases-turns g l = owed_all l.self.names.variables l.self.tasks.items
    + work (meaning_in l.self.names) l.next.0 l.next.1
