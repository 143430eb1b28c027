use Rattle.std.proofs.Common.{◌≡◌, ◌++◌, map, length}
use Rattle.std.specs.List.{list_all}
use Rattle.eqc_blif.specs.Words.{words, is_pair, pair_of}
use Rattle.eqc_blif.proofs.text.words.pairs_in.Given as goal

abbrev pub invariant-words : goal.invariant-words
invariant-words l = record {
  taken : l.pairs.items ++ map pair_of (words l.rest) ≡ map pair_of (words l.line);
  so_far : list_all is_pair (words l.line) ≡ list_all is_pair (words l.rest);
}

abbrev pub decreases-words : goal.decreases-words
decreases-words l = length l.rest
