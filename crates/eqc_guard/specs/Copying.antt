-- What a worker that is alone knows of the cells and the boxes: they stand in its copy of the
-- words.
use Rattle.std.specs.Prelude.{◌≡◌, ◌≢◌, ℕ, ◌+◌, List, get_or, Some}
use Rattle.eqc_guard.specs.Known.{Known}
use Rattle.eqc_guard.specs.Rule.{cells_from, boxes_from}

-- the word of a cell in a copy of the words
abbrev pub cell_in : Known → List ℕ → ℕ → ℕ
cell_in k ws c = get_or ws (cells_from k.core.sizes + c) 0

-- a worker that had a copy of the words has one still, with the same cells
abbrev pub KeepsCells : Known → Known → Type 0
KeepsCells k after = (ws : List ℕ) → k.copy ≡ Some ws → (left : List ℕ) × (after.copy ≡ Some left)
    × ((c : ℕ) → cell_in k left c ≡ cell_in k ws c)

-- the same, but for one cell, which has this word now
abbrev pub SetsCell : ℕ → ℕ → Known → Known → Type 0
SetsCell c word k after = (ws : List ℕ) → k.copy ≡ Some ws → (left : List ℕ)
    × (after.copy ≡ Some left) × (cell_in k left c ≡ word)
    × ((d : ℕ) → d ≢ c → cell_in k left d ≡ cell_in k ws d)

-- the word of a box in a copy of the words
abbrev pub box_in : Known → List ℕ → ℕ → ℕ
box_in k ws b = get_or ws (boxes_from k.core.sizes + b) 0

-- a worker that had a copy of the words has one still, in which one box has this word, and the
-- others are as before
abbrev pub SetsBox : ℕ → ℕ → Known → Known → Type 0
SetsBox b word k after = (ws : List ℕ) → k.copy ≡ Some ws → (left : List ℕ)
    × (after.copy ≡ Some left) × (box_in k left b ≡ word)
    × ((d : ℕ) → d ≢ b → box_in k left d ≡ box_in k ws d)
