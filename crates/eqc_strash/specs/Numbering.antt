-- For the proofs alone: numbers of rows and of signals while they are found.
use Rattle.std.specs.Prelude.{◌≡◌, ℕ, ◌+◌, ◌<◌, ◌≤◌, false, List, [], length, slice_index}
use Rattle.std.specs.Prelude.{slice_index_or}
use Rattle.eqc_netlist.specs.Graph.{FlatOf, DriverOf, input, tie, cover, driver_at}
use Rattle.eqc_strash.specs.Structure.{Structure, constant, structure_of}
use Rattle.eqc_strash.specs.Shapes.{structure_at}
use Rattle.eqc_strash.specs.Tables.{Stands}

-- how many rows by their numbers there are up to those of a driver
abbrev pub rows_until : DriverOf → ℕ
rows_until (input position) = 0
rows_until (tie other) = 0
rows_until (cover columns r) = r + 1

-- each rows of a netlist that a driver names have a place among others
pub record AreRowClasses (f : FlatOf) (rows : List (List (List ℕ))) (classes : List ℕ) : Type 0
  where
    pub named : (s : ℕ) → s < length f.drivers → rows_until (driver_at f s) ≤ length classes
    pub each : (r : ℕ) → r < length classes → Stands [] rows (slice_index classes r)
        (slice_index_or f.rows r [])

-- the structure that a signal's number says
abbrev pub said_by : List Structure → List ℕ → ℕ → Structure
said_by structures numbers s = structure_at structures (slice_index numbers s)

-- the signals of the first k steps have numbers of their structures
pub record AreNumbered (f : FlatOf) (variables : List ℕ) (structures : List Structure)
    (numbers : List ℕ) (k : ℕ) : Type 0 where
  pub size : length numbers ≡ length f.drivers
  pub each : (i : ℕ) → i < k
      → Stands (constant false) structures (slice_index numbers (slice_index f.steps i))
      (structure_of f variables (slice_index f.steps i))

-- all signals have
pub record AreNumbers (f : FlatOf) (variables : List ℕ) (structures : List Structure)
    (numbers : List ℕ) : Type 0 where
  pub size : length numbers ≡ length f.drivers
  pub each : (s : ℕ) → s < length f.drivers
      → Stands (constant false) structures (slice_index numbers s) (structure_of f variables s)
