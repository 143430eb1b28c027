use Rattle.std.proofs.Common.{◌≡◌, ℕ, ◌<◌, None, true, length, get_or}
use Rattle.eqc_plain.specs.Searching.{given, rises_by}
use Rattle.eqc_plain.proofs.search.Search.start_over.Given as goal

abbrev pub invariant-variables : goal.invariant-variables
invariant-variables l = record {
  choices : l.self.choices ≡ l.fn.self.choices;
  marks : l.self.marks ≡ l.fn.self.marks;
  long : length l.self.witness.items ≡ length l.fn.self.witness.items;
  started : (u : ℕ) → u < l.v → given l.self.witness.items u
      ≡ rises_by (get_or l.self.choices.items u None) true;
}
