use Rattle.std.proofs.Common.{◌≤◌, length}
use Rattle.eqc_plain.specs.Tasks.{LeadsTo, owed_all}
use Rattle.eqc_apply.specs.Extending.{Extends}
use Rattle.eqc_apply.specs.Meaning.{meaning_in}
use Rattle.eqc_apply.proofs.applier.Applier.resume.Given as goal

abbrev pub invariant-loop-task : goal.invariant-loop-task
invariant-loop-task g l = record {
  names : Extends l.fn.self.names l.self.names;
  leads : LeadsTo (meaning_in l.self.names) l.op l.self.tasks.items l.whole.value.0 l.whole.value.1
      l.x;
  less : owed_all l.self.names.variables l.self.tasks.items ≤ owed_all l.self.names.variables
      l.fn.self.tasks.items;
}

abbrev pub decreases-loop-task : goal.decreases-loop-task
decreases-loop-task g l = length l.self.tasks.items
