use Rattle.std.proofs.Common.{◌≡◌, length}
use Rattle.eqc_tree.specs.Tree.{value}
use Rattle.eqc_plain.specs.Store.{tree_at}
use Rattle.eqc_plain.specs.Searching.{IsSearch}
use Rattle.eqc_plain.proofs.Choosing.{IsDecided}
use Rattle.eqc_plain.proofs.store.Store.least.Given as goal

abbrev pub invariant-positions : goal.invariant-positions
invariant-positions l = record {
  search : IsSearch l.self l.f l.search;
  long : length l.values.items ≡ l.k;
  decided : IsDecided l.variables (value (tree_at l.self.nodes l.f)) l.search.choices.items
      l.values.items;
}
