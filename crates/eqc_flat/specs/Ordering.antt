-- For the proofs alone: an order of numbered signals in which each stands after those that it
-- depends on, and circles.
use Rattle.std.specs.Prelude.{◌≡◌, ℕ, ◌<◌, true, false, List, [], length, slice_index_or}
use Rattle.eqc_blif.specs.Netlist.{ModelOf}
use Rattle.eqc_flat.specs.DriverTable.{IsDriven}
use Rattle.eqc_hierarchy.specs.Walks.{WalksBack}
use Rattle.eqc_netlist.specs.Graph.{DriverOf}
use Rattle.eqc_netlist.specs.Drivers.{signal_deps}
use Rattle.eqc_netlist.specs.Dependency.{among, in_order, ends_within}

-- an order that has each signal once, after those that it depends on
pub record IsOrder (drivers : List DriverOf) (steps : List ℕ) : Type 0 where
  pub ordered : in_order (signal_deps drivers) [] steps ≡ true
  pub each : (s : ℕ) → s < length drivers → among steps s ≡ true
  pub count : length steps ≡ length drivers
  pub within : (k : ℕ) → k < length steps → slice_index_or steps k 0 < length drivers
  pub once : (i j : ℕ) → i < length steps → j < length steps → slice_index_or steps i 0
      ≡ slice_index_or steps j 0 → i ≡ j

-- some signal leads to a circle
abbrev pub IsCircular : List DriverOf → Type 0
IsCircular drivers = (s : ℕ) × (s < length drivers)
    × ((steps : ℕ) → ends_within (signal_deps drivers) steps s ≡ false)

-- a walk along dependencies that comes back
abbrev pub IsTrail : List DriverOf → List ℕ → Type 0
IsTrail drivers trail = (root : ℕ) × (root < length drivers)
    × WalksBack (signal_deps drivers) root trail

-- no order has each signal behind those that it depends on
abbrev pub HasNoOrder : List DriverOf → Type 0
HasNoOrder drivers = (steps : List ℕ) → IsOrder drivers steps → ⊥

-- the same along the drivers of a hierarchy
abbrev pub IsTrailBelow : List ModelOf → ℕ → List ℕ → Type 0
IsTrailBelow library top trail = (drivers : List DriverOf) × IsDriven library top drivers
    × IsTrail drivers trail
