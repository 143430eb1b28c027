-- For the proofs alone: the table of the drivers of the numbered signals while they are found. Each
-- signal has a slot.
use Rattle.std.specs.Prelude.{◌≡◌, ◌⊎◌, ℕ, ◌<◌, true, false, List, [], ◌∷◌, length, map, Option}
use Rattle.std.specs.Prelude.{Some, None, is_some, is_none, position, slice_index_or}
use Rattle.std.specs.Option.{option_map}
use Rattle.eqc_blif.specs.Netlist.{ModelOf}
use Rattle.eqc_netlist.specs.Graph.{DriverOf, IsWithinSizes}
use Rattle.eqc_hierarchy.specs.Hierarchy.{model}
use Rattle.eqc_hierarchy.specs.Signals.{Driving, sources_in, signals, sources, drivings}
use Rattle.eqc_hierarchy.specs.Codes.{is_driven_twice, is_undriven}
use Rattle.eqc_flat.specs.Flattened.{signal_at, source_of}
use Rattle.eqc_flat.specs.RowTable.{all_rows}
use Rattle.eqc_hierarchy.specs.Columns.{all_columns}
use Rattle.eqc_netlist.specs.StoredDrivers.{driver_from}
use Rattle.eqc_flat.specs.Finding.{hierarchical_name, IsFirstDrivenTwice}
use Rattle.eqc_flat.specs.declared.finding.hierarchical_name.Step.{Step}
use Rattle.eqc_netlist.specs.declared.drivers.stored_driver.StoredDriver.{StoredDriver}
use Rattle.eqc_flat.specs.declared.drivers.driver_table.Driven.{Driven}
use Rattle.eqc_flat.specs.declared.drivers.driver_table.Driven.TheVariants.{Twice, Never}

-- the driver of a slot as a list
abbrev pub in_slot : Option DriverOf → List DriverOf
in_slot None = []
in_slot (Some driver) = driver ∷ []

-- so far some drivings were gone through: a slot has what drives its signal among them, unless a
-- signal is known that
-- they drive twice, the first
pub record IsFilled (library : List ModelOf) (top : ℕ) (slots : List (Option DriverOf))
    (twice : Option ℕ) (done : List Driving) : Type 0 where
  pub size : length slots ≡ length (signals library top)
  pub once : is_some twice ≡ false → (s : ℕ) → s < length slots
      → sources_in done (signal_at library top s)
      ≡ map (source_of (signal_at library top) (all_rows library))
      (in_slot (slice_index_or slots s None))
  pub again : (s : ℕ) → twice ≡ Some s → (s < length (signals library top))
      × IsFirstDrivenTwice library top done (signal_at library top s)
  pub within : (s : ℕ) (driver : DriverOf) → s < length slots → slice_index_or slots s None
      ≡ Some driver
      → IsWithinSizes (length (model library top).inputs) (length (signals library top))
      (length (all_rows library)) driver

-- the same of slots in the form in which drivers are kept
abbrev pub IsTable : List ModelOf → ℕ → List (Option StoredDriver) → Option ℕ → List Driving
    → Type 0
IsTable library top slots twice done =
    IsFilled library top (map (option_map (driver_from (all_columns library))) slots) twice done

-- each signal has one driver, and these are they
abbrev pub IsDriven : List ModelOf → ℕ → List DriverOf → Type 0
IsDriven library top drivers = IsFilled library top (map (λ driver. Some driver) drivers) None
    (drivings library top)

-- why some signal has not one driver, or that memory was refused
abbrev pub IsDriverFault : List ModelOf → ℕ → ℕ → Type 0
IsDriverFault library top code =
    (code ≡ 72) ⊎ (((code ≡ 26) × (is_driven_twice library top ≡ true))
    ⊎ ((code ≡ 27) × (is_driven_twice library top ≡ false) × (is_undriven library top ≡ true)))

-- the code of a hierarchy that is refused for a signal that is driven so
abbrev pub driven_code : Driven → ℕ
driven_code Twice = 26
driven_code Never = 27

-- the first signal that is found to be driven so, in a table of these slots
abbrev pub first_driven : Driven → List (Option StoredDriver) → Option ℕ → Option ℕ
first_driven Twice slots twice = twice
first_driven Never slots twice = position is_none slots

-- a flat signal is driven so: twice, or by nothing, and is the first of which that is found
abbrev pub IsDrivenSo : Driven → List ModelOf → ℕ → ℕ → Type 0
IsDrivenSo Twice library top s = IsFirstDrivenTwice library top (drivings library top)
    (signal_at library top s)
IsDrivenSo Never library top s =
    (sources library top (signal_at library top s) ≡ [])
    × ((k : ℕ) → k < s → sources library top (signal_at library top k) ≡ [] → ⊥)

-- a flat signal of this name is driven so
abbrev pub NamesDriven : Driven → List ModelOf → ℕ → List Step × List ℕ → Type 0
NamesDriven driven library top name =
    (s : ℕ) × (s < length (signals library top))
    × (name ≡ hierarchical_name library top (signal_at library top s))
    × IsDrivenSo driven library top s
