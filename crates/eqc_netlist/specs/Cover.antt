-- The value of a cover (BLIF 1992, "Logic gates"): a cover whose rows end in 1 is the OR of its
-- rows, a cover
-- whose rows end in 0 is 0 where a row matches and 1 elsewhere, and a cover without rows is 0.
use Rattle.std.specs.Prelude.{ℕ, Bool, true, false, ◌&&◌, not, ◌==◌, ◌-◌, List, [], ◌∷◌, length}
use Rattle.std.specs.Prelude.{slice_index, if◌then◌else◌}
use Rattle.std.specs.List.{list_any}

-- whether the byte of a column allows a value: `0` allows 0, `1` allows 1, `-` both
abbrev pub allows : ℕ → Bool → Bool
allows byte v = if byte == 48 then not v else (if byte == 49 then v else true)

-- whether a row matches the values of its columns
abbrev pub row_matches : List ℕ → List Bool → Bool
row_matches row [] = true
row_matches [] (v ∷ vs) = true
row_matches (byte ∷ row) (v ∷ vs) = allows byte v && row_matches row vs

-- whether a row ends in `1`
abbrev pub is_on : List ℕ → Bool
is_on row = slice_index row (length row - 1) == 49

-- whether the first of some rows ends in `1`, so that they say where their cover is 1
abbrev pub is_on_set : List (List ℕ) → Bool
is_on_set [] = false
is_on_set (row ∷ rows) = is_on row

-- the value of rows under the values of their columns; all rows of a cover end alike
abbrev pub cover_value : List (List ℕ) → List Bool → Bool
cover_value [] vs = false
cover_value (row ∷ rows) vs =
    if is_on row then list_any (λ r. row_matches r vs) (row ∷ rows)
    else not (list_any (λ r. row_matches r vs) (row ∷ rows))
