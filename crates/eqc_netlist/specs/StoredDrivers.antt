-- For the proofs alone: drivers in the form in which they are kept. The columns of a cover are its
-- places among the
-- names of its model, and stand once for all instances of the model.
use Rattle.std.specs.Prelude.{ℕ, ◌+◌, ◌<◌, List, [], length, map, slice_index_or}
use Rattle.eqc_netlist.specs.Graph.{DriverOf, input, tie, cover, IsWithinSizes}
use Rattle.eqc_netlist.specs.declared.drivers.stored_driver.StoredDriver.{StoredDriver}
use Rattle.eqc_netlist.specs.declared.drivers.stored_driver.StoredDriver.TheVariants.{Input, Tie}
use Rattle.eqc_netlist.specs.declared.drivers.stored_driver.StoredDriver.TheVariants.{Cover}

-- a driver that is kept, as a driver of the graph
abbrev pub driver_from : List (List ℕ) → StoredDriver → DriverOf
driver_from columns (Input position) = input position
driver_from columns (Tie other) = tie other
driver_from columns (Cover first r) =
    cover (map (λ place. first + place) (slice_index_or columns r [])) r

-- each driver speaks of signals whose numbers fit into 32 bits, and of one of so many covers
abbrev pub AreInRange : ℕ → List DriverOf → Type 0
AreInRange covers drivers = (s : ℕ) → s < length drivers
    → IsWithinSizes 4294967296 4294967296 covers (slice_index_or drivers s (input 0))
