-- The one cell in which the result of an operation is kept.
use Rattle.std.specs.Prelude.{◌≡◌, ℕ, ◌-◌, ◌*◌, ◌/◌, ◌%◌, ◌^◌, ◌<◌, List, length, get_or, ltb}
use Rattle.std.specs.Prelude.{if◌then◌else◌}
use Rattle.std.specs.Int.Bits.{bit_and}
use Rattle.eqc_tree.specs.Operation.{tag_of}
use Rattle.eqc_tree.specs.Word.{cell_word}
use Rattle.eqc_tree.specs.declared.operation.Op.{Op}
use Rattle.eqc_tree.specs.declared.operation.Op.TheVariants.{And, Or, Xor, AndNot}

-- the operands as a cell has them: the smaller one first, where the operation does not tell them
-- apart
abbrev pub in_order : Op → ℕ → ℕ → ℕ × ℕ
in_order And f g = if ltb g f then (g, f) else (f, g)
in_order Or f g = if ltb g f then (g, f) else (f, g)
in_order Xor f g = if ltb g f then (g, f) else (f, g)
in_order AndNot f g = (f, g)

-- the word of r for an operation on operands that are in order
abbrev pub entry_of : Op → ℕ × ℕ → ℕ → ℕ
entry_of op p r = cell_word (tag_of op) p.0 p.1 r

-- the cell of a word, of so many: its operation and operands are multiplied by the golden ratio,
-- and bits of the upper half tell the cell
unfoldable pub place_of : ℕ → ℕ → ℕ
place_of cells word = bit_and (word / 2 ^ 20 * 11400714819323198485 % 2 ^ 64 / 2 ^ 32) (cells - 1)

-- there are cells, and that of the operation on f and g has r
abbrev pub HasAt : List ℕ → Op → (f g r : ℕ) → Type 0
HasAt cells op f g r =
    (0 < length cells) × (r < 2 ^ 20)
    × (get_or cells (place_of (length cells) (entry_of op (in_order op f g) 0)) 0
    ≡ entry_of op (in_order op f g) r)
