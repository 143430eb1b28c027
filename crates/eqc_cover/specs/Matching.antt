-- Rows of a cover under the value of their first column, and the columns of a cover as diagrams.
use Rattle.std.specs.Prelude.{◌≡◌, ℕ, Bool, true, false, List, [], ◌∷◌, length, map, take, ◌||◌}
use Rattle.std.specs.Prelude.{◌==◌, ◌≤◌, if◌then◌else◌, ◌+◌}
use Rattle.std.specs.List.{list_any, AllByRecursion}
use Rattle.std.specs.Borrow.{Bor}
use Rattle.eqc_netlist.specs.Cover.{allows, row_matches}
use Rattle.eqc_tree.specs.Holding.{Entry, Holding, IsHeld, says, copies, weight}

-- whether one of the rows matches
abbrev pub some_match : List (List ℕ) → List Bool → Bool
some_match rows vs = list_any (λ r. row_matches r vs) rows

-- the rows that allow this value of their first column, without it
abbrev pub cofactor : Bool → List (List ℕ) → List (List ℕ)
cofactor v [] = []
cofactor v ([] ∷ rows) = [] ∷ cofactor v rows
cofactor v ((byte ∷ row) ∷ rows) = if allows byte v then row ∷ cofactor v rows else cofactor v rows

-- whether the byte of a column asks for a value
abbrev pub is_literal : ℕ → Bool
is_literal byte = (byte == 48) || (byte == 49)

-- whether one of the rows has no places
abbrev pub has_free_row : List (List ℕ) → Bool
has_free_row rows = list_any (λ r. length r == 0) rows

-- whether one of the rows asks for a value of its first column
abbrev pub constrains_first : List (List ℕ) → Bool
constrains_first rows = list_any (λ r. list_any is_literal (take 1 r)) rows

-- under all values of so many columns the one row matches exactly where the other does
pub record RowsAlike (columns : ℕ) (row other : List ℕ) : Type 0 where
  pub alike : (vs : List Bool) → length vs ≤ columns → row_matches row vs ≡ row_matches other vs

-- under all values of so many columns some row of the one list matches exactly where some row of
-- the other does
pub record MatchAlike (columns : ℕ) (rows others : List (List ℕ)) : Type 0 where
  pub alike : (vs : List Bool) → length vs ≤ columns → some_match rows vs ≡ some_match others vs

-- whether a value is the one that is wanted
abbrev pub agrees : Bool → Bool → Bool
agrees true b = b
agrees false true = false
agrees false false = true

-- each reference of a list is held
pub record AreHeld {X : Type 0} (entry : X → Entry) (d : Holding) (rs : List (Bor X)) : Type 0 where
  pub each : AllByRecursion (λ (r : Bor X). IsHeld d (entry r.now)) rs

-- what references say under an assignment
abbrev pub said : {X : Type 0} → (X → Entry) → List (Bor X) → (ℕ → Bool) → List Bool
said entry rs a = map (λ r. says (entry r.now) a) rs

-- one reference in place of another, with this function
pub record Swaps (old new : Holding) (gone come : Entry) (f : (ℕ → Bool) → Bool) : Type 0 where
  pub variables : new.variables ≡ old.variables
  pub held : (e : Entry) → copies new e + weight gone e ≡ copies old e + weight come e
  pub function : (a : ℕ → Bool) → says come a ≡ f a
