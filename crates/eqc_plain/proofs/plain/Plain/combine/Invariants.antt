use Rattle.std.proofs.Common.{◌+◌, ◌<◌, length}
use Rattle.eqc_plain.specs.Extending.{Extends}
use Rattle.eqc_plain.specs.Meaning.{meaning_of}
use Rattle.eqc_plain.specs.Spending.{Spends}
use Rattle.eqc_plain.specs.Tasks.{Leads, owed_all, work}
use Rattle.eqc_plain.proofs.plain.Plain.combine.Given as goal

abbrev pub invariant-turns : goal.invariant-turns
invariant-turns l = record {
  store : Extends l.fn.self.store l.self.store;
  leads : Leads (meaning_of l.self.store.variables l.self.store.nodes) l.op l.self.tasks.items l.f
      l.g l.next.0 l.next.1;
  first : l.next.0 < length l.self.store.nodes + 2;
  second : l.next.1 < length l.self.store.nodes + 2;
  turns : Spends l.fn.self.turns l.self.turns;
}

abbrev pub decreases-turns : goal.decreases-turns
decreases-turns l = owed_all l.self.store.variables l.self.tasks.items
    + work (meaning_of l.self.store.variables l.self.store.nodes) l.next.0 l.next.1
