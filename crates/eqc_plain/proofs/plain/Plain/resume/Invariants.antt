use Rattle.std.proofs.Common.{◌≡◌, ◌≤◌, length}
use Rattle.eqc_plain.specs.Extending.{Extends}
use Rattle.eqc_plain.specs.Meaning.{meaning_of}
use Rattle.eqc_plain.specs.Tasks.{LeadsTo, owed_all}
use Rattle.eqc_plain.proofs.plain.Plain.resume.Given as goal

abbrev pub invariant-loop-task : goal.invariant-loop-task
invariant-loop-task l = record {
  store : Extends l.fn.self.store l.self.store;
  leads : LeadsTo (meaning_of l.self.store.variables l.self.store.nodes) l.op l.self.tasks.items
      l.whole.value.0 l.whole.value.1 l.x;
  less : owed_all l.self.store.variables l.self.tasks.items ≤ owed_all l.self.store.variables
      l.fn.self.tasks.items;
  turns : l.self.turns ≡ l.fn.self.turns;
}

abbrev pub decreases-loop-task : goal.decreases-loop-task
decreases-loop-task l = length l.self.tasks.items
