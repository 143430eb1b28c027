use Rattle.std.proofs.Common.{◌≡◌, ℕ, ◌<◌, length, not, eqb, get_or, take, false}
use Rattle.std.specs.List.{list_any}
use Rattle.eqc_pair.proofs.name_index.marks_but.Given as goal

abbrev pub invariant-places : goal.invariant-places
invariant-places l = record {
  size : length l.marks.items ≡ l.count;
  each : (o : ℕ) → o < l.count → get_or l.marks.items o false
      ≡ not (list_any (eqb o) (take l.place-index l.places));
}
