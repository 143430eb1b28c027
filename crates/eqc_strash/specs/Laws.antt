-- Laws of structures, which hold of every flat netlist.
use Rattle.std.specs.Prelude.{◌≡◌, ℕ, ◌<◌, Bool, List, length}
use Rattle.eqc_netlist.specs.Graph.{FlatOf, IsFlat, FollowsDrivers, driver_at, value_of}
use Rattle.eqc_strash.specs.Structure.{driver_structure, structure_of}
use Rattle.eqc_strash.specs.Classes.{inputs_under}

-- each signal's structure is what its driver makes of the structures
abbrev pub StructuresFollowDrivers : Type 0
StructuresFollowDrivers =
    (f : FlatOf) (variables : List ℕ) (s : ℕ) → IsFlat f → s < length f.drivers →
    structure_of f variables s ≡ driver_structure f.rows variables (structure_of f variables)
    (driver_at f s)

-- signals of equal structure have equal values, also of two netlists, under every assignment of
-- values to variables:
-- inputs of one variable have one value
abbrev pub EqualStructuresHaveEqualValues : Type 0
EqualStructuresHaveEqualValues =
    (f g : FlatOf) (variables others : List ℕ) (s t : ℕ) (a : ℕ → Bool) →
    IsFlat f → FollowsDrivers f → IsFlat g → FollowsDrivers g → s < length f.drivers
    → t < length g.drivers →
    structure_of f variables s ≡ structure_of g others t →
    value_of f (inputs_under variables a) s ≡ value_of g (inputs_under others a) t
