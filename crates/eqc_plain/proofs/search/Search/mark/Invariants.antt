use Rattle.std.proofs.Common.{◌≡◌, ◌+◌, ◌≤◌, length}
use Rattle.eqc_plain.specs.Searching.{AreMarked}
use Rattle.eqc_plain.proofs.search.Search.mark.Given as goal

abbrev pub invariant-numbers : goal.invariant-numbers
invariant-numbers l = record {
  choices : l.self.choices ≡ l.fn.self.choices;
  witness : l.self.witness ≡ l.fn.self.witness;
  long : length l.self.marks.items ≡ l.f + 1;
  from : 2 ≤ l.x;
  marked : AreMarked l.store.nodes l.self.choices.items l.self.marks.items l.x;
}
