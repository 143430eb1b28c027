-- Rows and the cover to which they belong.
use Rattle.std.proofs.Common.{◌≡◌, ℕ, ◌≤◌, Bool, true, List, [], ◌∷◌, length, drop, refl, sym}
use Rattle.std.proofs.lemmas.List.{drop_all}
use Rattle.eqc_netlist.specs.Cover.{row_matches}

-- a row that is over matches whatever is left
pub row_over : (vs : List Bool) → row_matches [] vs ≡ true
row_over [] = refl
row_over (v ∷ vs) = refl

pub row_matches-past : (i : ℕ) (row : List ℕ) (vs : List Bool) → length row ≤ i
    → true ≡ row_matches (drop i row) vs
row_matches-past i row vs past = rw (drop_all i row past) (sym (row_over vs))
