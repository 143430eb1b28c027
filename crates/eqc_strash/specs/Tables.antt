-- For the proofs alone: lists in which each element stands once and keeps its place, and the
-- structures of classes.
use Rattle.std.specs.Prelude.{◌≡◌, ℕ, ◌+◌, ◌<◌, ◌≤◌, false, List, [], ◌∷◌, ◌++◌, length}
use Rattle.std.specs.Prelude.{slice_index_or}
use Rattle.eqc_strash.specs.Structure.{Structure, constant}
use Rattle.eqc_strash.specs.Shapes.{grown, structure_at, IsShapeWithin}
use Rattle.eqc_strash.specs.declared.shape.Shape.{Shape}
use Rattle.eqc_strash.specs.declared.shape.Shape.TheVariants.{Constant}

-- no element stands at two places
pub record AreApart {X : Type 0} (d : X) (xs : List X) : Type 0 where
  pub apart : (i j : ℕ) → i < length xs → j < length xs → slice_index_or xs i d
      ≡ slice_index_or xs j d → i ≡ j

-- at most n elements came behind others
pub record Grows {X : Type 0} (d : X) (old new : List X) (n : ℕ) : Type 0 where
  pub kept : (i : ℕ) → i < length old → slice_index_or new i d ≡ slice_index_or old i d
  pub longer : length old ≤ length new
  pub few : length new ≤ length old + n

-- an element stands at a place
pub record Stands {X : Type 0} (d : X) (xs : List X) (k : ℕ) (x : X) : Type 0 where
  pub within : k < length xs
  pub at : slice_index_or xs k d ≡ x

-- the structures of classes, with those of shapes behind them, each over those before it
abbrev pub grown_all : List (List (List ℕ)) → List Structure → List Shape → List Structure
grown_all rows structures [] = structures
grown_all rows structures (shape ∷ shapes) =
    grown_all rows (structures ++ grown rows structures shape ∷ []) shapes

-- the structures of the classes that are told by these shapes
unfoldable pub structures_of : List (List (List ℕ)) → List Shape → List Structure
structures_of rows shapes = grown_all rows [] shapes

abbrev pub structures_in : (List (List (List ℕ)) × List Shape) → List Structure
structures_in table = structures_of table.0 table.1

-- each shape is over rows and classes that are there before it, and says the structure of its class
pub record IsClassTable (rows : List (List (List ℕ))) (shapes : List Shape)
    (structures : List Structure) : Type 0 where
  pub rows_apart : AreApart [] rows
  pub size : length structures ≡ length shapes
  pub said : (i : ℕ) → i < length shapes → structure_at structures i ≡ grown rows structures
      (slice_index_or shapes i (Constant false))
  pub before : (i : ℕ) → i < length shapes
      → IsShapeWithin (length rows) i (slice_index_or shapes i (Constant false))
  pub apart : AreApart (constant false) structures
