-- The shared words by kind, and the fields of a word.
use Rattle.std.specs.Prelude.{ℕ, ◌+◌, ◌*◌, ◌/◌, ◌%◌, ◌^◌, List, [], ◌∷◌, count_by, eqb}
use Rattle.std.specs.Prelude.{if◌then◌else◌, ltb}
use Rattle.eqc_tree.specs.Word.{node_low, node_high, cell_tag, cell_first, cell_second, cell_result}
use Rattle.eqc_core.specs.declared.sizes.Sizes.{Sizes}

-- the words, by kind
pub record Words : Type 0 where
  pub announced : List ℕ
  pub counts : List ℕ
  pub nodes : List ℕ
  pub cells : List ℕ
  pub boxes : List ℕ
  pub locks : List ℕ

-- all announcement words
abbrev pub announced_words : Sizes → ℕ
announced_words z = z.workers * z.announcements

-- the k-th announcement word of worker m: worker 0 has the first ones
unfoldable pub word_at : Sizes → ℕ → ℕ → ℕ
word_at z m k = m * z.announcements + k

-- the fields of a node word; the variable with the bits above it, so that a word in order has none
-- of them
unfoldable pub variable_of : ℕ → ℕ
variable_of word = word / 2 ^ 40

unfoldable pub low_of : ℕ → ℕ
low_of word = node_low word

unfoldable pub high_of : ℕ → ℕ
high_of word = node_high word

abbrev pub children : ℕ → List ℕ
children word = low_of word ∷ high_of word ∷ []

-- the stripe whose table has the node word
unfoldable pub stripe_of : ℕ → ℕ
stripe_of word = (variable_of word + (low_of word + high_of word)) % 16

-- the fields of the word of a cell or a box
unfoldable pub operation_of : ℕ → ℕ
operation_of word = cell_tag word

unfoldable pub first_of : ℕ → ℕ
first_of word = cell_first word

unfoldable pub second_of : ℕ → ℕ
second_of word = cell_second word

unfoldable pub result_of : ℕ → ℕ
result_of word = cell_result word

abbrev pub operands : ℕ → List ℕ
operands word = first_of word ∷ second_of word ∷ []

-- the names in a cell or a box, the result first
abbrev pub cell_names : ℕ → List ℕ
cell_names word = result_of word ∷ operands word

-- how often x stands in the list
unfoldable pub times : ℕ → List ℕ → ℕ
times x xs = count_by (λ y. eqb y x) xs

-- the slots among some names: 0 and 1 are the constants
abbrev pub slots_of : List ℕ → List ℕ
slots_of [] = []
slots_of (x ∷ xs) = if ltb x 2 then slots_of xs else x ∷ slots_of xs
