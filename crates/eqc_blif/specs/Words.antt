-- The words of a logical line, and what they are cut into (BLIF 1992, section 1).
use Rattle.std.specs.Prelude.{ℕ, ◌-◌, Bool, ◌&&◌, not, List, [], ◌∷◌, length, take, map, filter}
use Rattle.std.specs.Prelude.{slice_index_or, nat_lt, ◌==◌}
use Rattle.std.specs.List.{slice_split, before_first, after_first}
use Rattle.eqc_blif.specs.Lines.{is_blank}
use Rattle.eqc_blif.specs.Netlist.{CoverOf, InstanceOf}

abbrev pub is_word : List ℕ → Bool
is_word part = not (length part == 0)

-- the words of a line: its parts between spaces and tabs that are not empty
abbrev pub words : List ℕ → List (List ℕ)
words line = filter is_word (slice_split is_blank line)

-- the first of some words, which is empty where there is none
abbrev pub first_of : List (List ℕ) → List ℕ
first_of [] = []
first_of (word ∷ others) = word

-- the words behind the first
abbrev pub behind_first : List (List ℕ) → List (List ℕ)
behind_first [] = []
behind_first (word ∷ others) = others

-- the words of a line behind its command
abbrev pub arguments : List ℕ → List (List ℕ)
arguments line = behind_first (words line)

-- a line without its spaces and tabs
abbrev pub without_blanks : List ℕ → List ℕ
without_blanks line = filter (λ byte. not (is_blank byte)) line

abbrev pub is_equals_sign : ℕ → Bool
is_equals_sign byte = byte == 61

-- a pair `formal=actual`, which is split at its first `=`; without one the actual is empty
abbrev pub pair_of : List ℕ → List ℕ × List ℕ
pair_of word = (before_first is_equals_sign word, after_first is_equals_sign word)

-- whether a word is a pair whose formal and actual are not empty
abbrev pub is_pair : List ℕ → Bool
is_pair word = nat_lt 0 (length (pair_of word).0) && nat_lt 0 (length (pair_of word).1)

-- the cover that `.names` opens with these words: the last is its output, those before it are its
-- columns
abbrev pub cover_of : List (List ℕ) → CoverOf
cover_of ws = record {
  columns = take (length ws - 1) ws;
  output =
      slice_index_or ws (length ws - 1) [];
  rows = [];
}

-- the instance that `.subckt` makes with these words: a model and pairs
abbrev pub instance_of : List (List ℕ) → InstanceOf
instance_of ws = record { model = first_of ws; pairs = map pair_of (behind_first ws) }
