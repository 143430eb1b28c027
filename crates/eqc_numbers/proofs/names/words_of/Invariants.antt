use Rattle.std.specs.Prelude.{ℕ, ◌<◌, length}
use Rattle.std.specs.List.{All}
use Rattle.eqc_numbers.proofs.names.words_of.Given as goal

abbrev pub invariant-names : goal.invariant-names
invariant-names l = record {
  words : All (λ w. All (λ k. k < length l.names) w.items) l.words.items;
  word : All (λ k. k < length l.names) l.word.items;
}
