-- The structure of a signal: the tree that one reaches by following what drives it, down to the
-- inputs. An input is
-- told by its variable, and inputs that are matched have one. Connections, and covers that only
-- pass their one column
-- on, leave no trace in it.
use Rattle.std.specs.Prelude.{ℕ, zero, suc, Bool, false, ◌||◌, ◌&&◌, ◌==◌, List, [], ◌∷◌, length}
use Rattle.std.specs.Prelude.{map, slice_index, slice_index_or, if◌then◌else◌}
use Rattle.std.specs.Str.{bytes_eq}
use Rattle.eqc_netlist.specs.Cover.{is_on_set}
use Rattle.eqc_netlist.specs.Graph.{FlatOf, DriverOf, input, tie, cover, driver_at}

-- a variable, a constant, or a gate: the rows of a cover over the structures of its columns
mutual
  pub data Structure : Type 0 where
    variable : ℕ → Structure
    constant : Bool → Structure
    gate : List (List ℕ) → Structures → Structure

  pub data Structures : Type 0 where
    no_more : Structures
    then_more : Structure → Structures → Structures

abbrev pub in_row : List Structure → Structures
in_row [] = no_more
in_row (x ∷ xs) = then_more x (in_row xs)

-- whether a cover with these rows and so many columns is constant: it has no row, or no column
abbrev pub is_constant : List (List ℕ) → ℕ → Bool
is_constant rows columns = (length rows == 0) || (columns == 0)

-- whether a row says of one column what it is: `11` or `00`
abbrev pub repeats : List ℕ → Bool
repeats row = bytes_eq row (49 ∷ 49 ∷ []) || bytes_eq row (48 ∷ 48 ∷ [])

-- whether a cover only passes its one column on: such a row is its only one
abbrev pub passes_on : List (List ℕ) → ℕ → Bool
passes_on rows columns = (columns == 1) && ((length rows == 1)
    && repeats (slice_index_or rows 0 []))

-- the structure of a cover over columns of these structures
abbrev pub cover_structure : List (List ℕ) → List Structure → Structure
cover_structure rows columns =
    if is_constant rows (length columns) then constant (is_on_set rows)
    else (if passes_on rows (length columns) then slice_index_or columns 0 (constant false) else
    gate rows (in_row columns))

-- what a driver makes of the variables of the inputs and of the structures t of the signals
abbrev pub driver_structure : List (List (List ℕ)) → List ℕ → (ℕ → Structure) → DriverOf → Structure
driver_structure rows variables t (input position) = variable (slice_index variables position)
driver_structure rows variables t (tie other) = t other
driver_structure rows variables t (cover columns r) = cover_structure (slice_index_or rows r [])
    (map t columns)

-- the structures after some rounds, in each of which every signal follows its driver
unfoldable pub followed : FlatOf → List ℕ → ℕ → ℕ → Structure
followed f variables zero s = constant false
followed f variables (suc rounds) s =
    driver_structure f.rows variables (followed f variables rounds) (driver_at f s)

-- the structure of a signal: after as many rounds as there are signals
unfoldable pub structure_of : FlatOf → List ℕ → ℕ → Structure
structure_of f variables s = followed f variables (length f.drivers) s
