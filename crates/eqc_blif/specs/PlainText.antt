-- The plain text of a library: a line for each statement, with a space between each two words.
use Rattle.std.specs.Prelude.{◌≡◌, ℕ, ◌&&◌, Bool, true, false, not, List, [], ◌∷◌, ◌++◌, length}
use Rattle.std.specs.Prelude.{map, nat_lt, ◌==◌, codes, Ok}
use Rattle.std.specs.List.{list_all, list_any, flat_map}
use Rattle.eqc_blif.specs.Netlist.{CoverOf, InstanceOf, ModelOf}
use Rattle.eqc_blif.specs.Lines.{continues, logical_lines}
use Rattle.eqc_blif.specs.Words.{words, is_equals_sign}
use Rattle.eqc_netlist.specs.Names.{has_twice}
use Rattle.eqc_blif.specs.Reading.{has_row_shape, is_too_long, outcome}
use Rattle.eqc_blif.specs.Laws.{contents, lists_are_distinct, ends_alike}

-- words with a space between each two
abbrev pub with_blanks : List (List ℕ) → List ℕ
with_blanks [] = []
with_blanks (word ∷ []) = word
with_blanks (word ∷ (next ∷ more)) = word ++ 32 ∷ with_blanks (next ∷ more)

-- lines of words, each with an LF behind it
abbrev pub text_of : List (List (List ℕ)) → List ℕ
text_of [] = []
text_of (ws ∷ more) = with_blanks ws ++ 10 ∷ text_of more

-- a byte of a word: above the space, and neither 127 nor `#`
abbrev pub is_word_byte : ℕ → Bool
is_word_byte byte = nat_lt 32 byte && (not (byte == 127) && not (byte == 35))

-- a word that a line can have: some such bytes
abbrev pub is_plain_word : List ℕ → Bool
is_plain_word word = nat_lt 0 (length word) && list_all is_word_byte word

-- words that make a line: at least one, and the last doesn't end in a backslash
abbrev pub is_plain_line : List (List ℕ) → Bool
is_plain_line ws = nat_lt 0 (length ws) && (list_all is_plain_word ws
    && not (continues (with_blanks ws)))

-- the words of lines are read back
abbrev pub WordsAreReadBack : Type 0
WordsAreReadBack = (lines : List (List (List ℕ))) → list_all is_plain_line lines ≡ true
    → map words (contents (logical_lines (text_of lines))) ≡ lines

abbrev pub cover_lines : CoverOf → List (List (List ℕ))
cover_lines cover = (codes ".names" ∷ (cover.columns ++ cover.output ∷ [])) ∷ map (λ row. row ∷ [])
    cover.rows

abbrev pub pair_word : List ℕ × List ℕ → List ℕ
pair_word pair = pair.0 ++ 61 ∷ pair.1

abbrev pub instance_line : InstanceOf → List (List ℕ)
instance_line instance = codes ".subckt" ∷ (instance.model ∷ map pair_word instance.pairs)

abbrev pub model_lines : ModelOf → List (List (List ℕ))
model_lines m =
    (codes ".model" ∷ m.name ∷ [])
    ∷ (codes ".inputs" ∷ m.inputs)
    ∷ (codes ".outputs" ∷ m.outputs)
    ∷ (flat_map cover_lines m.covers ++ (map instance_line m.instances ++ (codes ".end" ∷ []) ∷ []))

abbrev pub library_lines : List ModelOf → List (List (List ℕ))
library_lines ms = flat_map model_lines ms

abbrev pub plain_text : List ModelOf → List ℕ
plain_text ms = text_of (library_lines ms)

-- whether the rows of a cover fit its columns and end alike
abbrev pub is_plain_cover : CoverOf → Bool
is_plain_cover cover = list_all (has_row_shape (length cover.columns)) cover.rows
    && ends_alike cover

-- whether a formal and an actual make a pair: neither is empty, and the formal has no `=`
abbrev pub is_plain_pair : List ℕ × List ℕ → Bool
is_plain_pair pair = nat_lt 0 (length pair.0) && (nat_lt 0 (length pair.1)
    && not (list_any is_equals_sign pair.0))

abbrev pub is_plain_model : ModelOf → Bool
is_plain_model m = list_all is_plain_cover m.covers && list_all (λ instance. list_all is_plain_pair
    instance.pairs) m.instances

-- a library that its plain text gives back: some models of distinct names, none of them with a name
-- twice in a list, whose
-- rows and pairs are such and whose names are words, in a text of no more bytes than the limit
pub record IsPlain (limit : ℕ) (ms : List ModelOf) : Type 0 where
  pub some : nat_lt 0 (length ms) ≡ true
  pub names : has_twice (map (λ m. m.name) ms) ≡ false
  pub lists : lists_are_distinct ms ≡ true
  pub models : list_all is_plain_model ms ≡ true
  pub lines : list_all is_plain_line (library_lines ms) ≡ true
  pub short : is_too_long limit (plain_text ms) ≡ false

-- a plain library is read back from its plain text
abbrev pub LibrariesAreReadBack : Type 0
LibrariesAreReadBack = (limit : ℕ) (ms : List ModelOf) → IsPlain limit ms
    → outcome limit (plain_text ms) ≡ Ok ms
