-- Where the result of an operation is kept, and what a worker that is alone knows of it.
use Rattle.std.specs.Prelude.{◌≡◌, ℕ, ◌+◌, ◌-◌, ◌*◌, ◌/◌, ◌%◌, ◌^◌, ◌<◌, ◌≤◌, ◌⊎◌, List, length}
use Rattle.std.specs.Prelude.{ltb, if◌then◌else◌, Some}
use Rattle.std.specs.Int.Bits.{bit_xor}
use Rattle.eqc_tree.specs.Operation.{tag_of}
use Rattle.eqc_tree.specs.Word.{cell_word}
use Rattle.eqc_tree.specs.declared.operation.Op.{Op}
use Rattle.eqc_tree.specs.declared.operation.Op.TheVariants.{And, Or, Xor, AndNot}
use Rattle.eqc_core.specs.Words.{operation_of, first_of, second_of, result_of}
use Rattle.eqc_guard.specs.Known.{Known}
use Rattle.eqc_guard.specs.Copying.{cell_in, KeepsCells, SetsCell}

-- the operands as a cell has them: the smaller one first, where the operation does not tell them
-- apart
abbrev pub in_order : Op → ℕ → ℕ → ℕ × ℕ
in_order And f g = if ltb g f then (g, f) else (f, g)
in_order Or f g = if ltb g f then (g, f) else (f, g)
in_order Xor f g = if ltb g f then (g, f) else (f, g)
in_order AndNot f g = (f, g)

-- a word of 64 bits, mixed: it is multiplied by the golden ratio (Knuth 1973), its upper half is
-- added to the lower one without carry, and it is multiplied once more
unfoldable pub mixed_word : ℕ → ℕ
mixed_word w = (let spread = w * 11400714819323198485 % 2 ^ 64 in bit_xor spread (spread / 2 ^ 32))
    * 11400714819323198485 % 2 ^ 64

-- the cell of an operation, of so many: operands and operation are mixed, and the upper half is
-- scaled to the number of cells
unfoldable pub place_of : ℕ → Op → ℕ × ℕ → ℕ
place_of cells op p = mixed_word (((p.0 * 2 ^ 32 + p.1) * 8 % 2 ^ 64 + tag_of op) % 2 ^ 64) / 2 ^ 32
    * cells / 2 ^ 32

-- the word of an entry
abbrev pub entry_of : Op → ℕ × ℕ → ℕ → ℕ
entry_of op p r = cell_word (tag_of op) p.0 p.1 r

-- the cell of the operands has the entry now, and the others are as before; at the limit of
-- references all are
abbrev pub IsStored : Op → ℕ → ℕ → ℕ → Known → Known → Type 0
IsStored op f g r k after =
    SetsCell (place_of k.core.sizes.cells op (in_order op f g)) (entry_of op (in_order op f g) r) k
    after
    ⊎ ((2 ^ 32 - 3 ≤ length k.core.held) × KeepsCells k after)

-- the first n cells are empty in the copy of a worker that had one, and the words behind them are
-- as before
abbrev pub AreEmpty : ℕ → Known → Known → Type 0
AreEmpty n k after = (ws : List ℕ) → k.copy ≡ Some ws → (left : List ℕ) × (after.copy ≡ Some left)
    × ((c : ℕ) → c < n → cell_in k left c ≡ 0)
    × ((c : ℕ) → n ≤ c → cell_in k left c ≡ cell_in k ws c)

-- a word is the entry of the operation with these operands
abbrev pub IsEntry : Op → ℕ × ℕ → ℕ → Type 0
IsEntry op p word = (operation_of word ≡ tag_of op) × (first_of word ≡ p.0) × (second_of word ≡ p.1)

-- the word of the operands' cell in a copy of the words
abbrev pub kept_word : Op → ℕ → ℕ → Known → List ℕ → ℕ
kept_word op f g k ws = cell_in k ws (place_of k.core.sizes.cells op (in_order op f g))

-- a worker that has a copy of the words has the entry with these operands in the cell, with this
-- result
abbrev pub HasResultAt : Op → ℕ × ℕ → ℕ → ℕ → Known → Type 0
HasResultAt op p c r k = (ws : List ℕ) → k.copy ≡ Some ws → IsEntry op p (cell_in k ws c)
    × (result_of (cell_in k ws c) ≡ r)

-- or has another word there
abbrev pub HasNoneAt : Op → ℕ × ℕ → ℕ → Known → Type 0
HasNoneAt op p c k = (ws : List ℕ) → k.copy ≡ Some ws → IsEntry op p (cell_in k ws c) → ⊥

-- a worker that has a copy of the words has the entry in the operands' cell, with this result
abbrev pub HasResult : Op → ℕ → ℕ → ℕ → Known → Type 0
HasResult op f g r k = (ws : List ℕ) → k.copy ≡ Some ws
    → IsEntry op (in_order op f g) (kept_word op f g k ws) × (result_of (kept_word op f g k ws) ≡ r)

-- or has no entry there
abbrev pub HasNone : Op → ℕ → ℕ → Known → Type 0
HasNone op f g k = (ws : List ℕ) → k.copy ≡ Some ws
    → IsEntry op (in_order op f g) (kept_word op f g k ws) → ⊥

-- the cell of a worker that has a copy of the words has a node as its result
abbrev pub HasNodeAt : ℕ → Known → Type 0
HasNodeAt c k = (ws : List ℕ) → k.copy ≡ Some ws → 2 ≤ result_of (cell_in k ws c)

-- so has the operands' cell
abbrev pub HasNode : Op → ℕ → ℕ → Known → Type 0
HasNode op f g k = (ws : List ℕ) → k.copy ≡ Some ws → 2 ≤ result_of (kept_word op f g k ws)
