use Rattle.std.proofs.Common.{◌≡◌}
use Rattle.eqc_plain.proofs.Searching.{IsOnWay}
use Rattle.eqc_plain.proofs.search.Search.trace.Given as goal

abbrev pub invariant-way : goal.invariant-way
invariant-way l = record {
  choices : l.self.choices ≡ l.fn.self.choices;
  marks : l.self.marks ≡ l.fn.self.marks;
  on : IsOnWay l.store.variables l.store.nodes l.self.choices.items l.self.marks.items l.f l.x
      l.self.witness.items;
}

abbrev pub decreases-way : goal.decreases-way
decreases-way l = l.x
