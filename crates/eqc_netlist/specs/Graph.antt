-- A flat netlist: numbered signals, each with what drives it, and the value of each under values of
-- the inputs.
use Rattle.std.specs.Prelude.{◌≡◌, ℕ, zero, suc, ◌-◌, ◌<◌, ◌≤◌, Bool, true, false, List, [], ◌∷◌}
use Rattle.std.specs.Prelude.{length, map, slice_index_or}
use Rattle.eqc_netlist.specs.Cover.{cover_value}
use Rattle.eqc_netlist.specs.Names.{has_twice}
use Rattle.eqc_netlist.specs.Dependency.{among, in_order}

-- what drives a signal: the input at a position, the signal at the other end of a tie, or a cover
-- over
-- signals with the rows of a number
pub data DriverOf : Type 0 where
  input : (position : ℕ) → DriverOf
  tie : (other : ℕ) → DriverOf
  cover : (columns : List ℕ) (rows : ℕ) → DriverOf

-- a flat netlist: the names of its inputs and outputs, the signals of the outputs, each signal's
-- instance and
-- name, each instance's parent and position there (instance 0, the main model, has none), each
-- signal's
-- driver, the rows of covers, and an order of the signals
pub record FlatOf : Type 0 where
  pub inputs : List (List ℕ)
  pub outputs : List (List ℕ)
  pub output_signals : List ℕ
  pub signals : List (ℕ × List ℕ)
  pub places : List (ℕ × ℕ)
  pub drivers : List DriverOf
  pub rows : List (List (List ℕ))
  pub steps : List ℕ

-- the driver of a signal
abbrev pub driver_at : FlatOf → ℕ → DriverOf
driver_at f s = slice_index_or f.drivers s (input 0)

-- the signals that a driver depends on
abbrev pub dependencies : DriverOf → List ℕ
dependencies (input position) = []
dependencies (tie other) = other ∷ []
dependencies (cover columns rows) = columns

-- what a driver makes of the values a of the inputs and v of the signals
abbrev pub driven : List (List (List ℕ)) → (ℕ → Bool) → (ℕ → Bool) → DriverOf → Bool
driven rows a v (input position) = a position
driven rows a v (tie other) = v other
driven rows a v (cover columns r) = cover_value (slice_index_or rows r []) (map v columns)

-- the values after some rounds, in each of which every signal follows its driver
unfoldable pub settled : FlatOf → (ℕ → Bool) → ℕ → ℕ → Bool
settled f a zero s = false
settled f a (suc rounds) s = driven f.rows a (settled f a rounds) (driver_at f s)

-- the value of a signal: after as many rounds as there are signals
unfoldable pub value_of : FlatOf → (ℕ → Bool) → ℕ → Bool
value_of f a s = settled f a (length f.drivers) s

-- whether a driver speaks of so many inputs, signals and lists of rows
abbrev pub IsWithinSizes : ℕ → ℕ → ℕ → DriverOf → Type 0
IsWithinSizes inputs signals rows (input position) = position < inputs
IsWithinSizes inputs signals rows (tie other) = other < signals
IsWithinSizes inputs signals rows (cover columns r) = ((k : ℕ) → k < length columns
    → slice_index_or columns k 0 < signals) × (r < rows)

-- whether a driver speaks of inputs, signals and rows that are there
abbrev pub IsWithin : FlatOf → DriverOf → Type 0
IsWithin f driver = IsWithinSizes (length f.inputs) (length f.drivers) (length f.rows) driver

-- what holds of every flat netlist
pub record IsFlat (f : FlatOf) : Type 0 where
  -- its sizes
  pub few_inputs : length f.inputs ≤ 65535
  pub few_signals : length f.drivers ≤ 1048576
  pub few_outputs : length f.outputs ≤ length f.drivers
  pub each_named : length f.signals ≡ length f.drivers
  pub each_output : length f.output_signals ≡ length f.outputs
  -- no name stands twice among its inputs, nor among its outputs
  pub inputs_differ : has_twice f.inputs ≡ false
  pub outputs_differ : has_twice f.outputs ≡ false
  -- each signal that it speaks of is there
  pub outputs_within : (o : ℕ) → o < length f.outputs → slice_index_or f.output_signals o 0
      < length f.drivers
  pub drivers_within : (s : ℕ) → s < length f.drivers → IsWithin f (driver_at f s)
  pub steps_within : (k : ℕ) → k < length f.steps → slice_index_or f.steps k 0 < length f.drivers
  -- the instance of each signal is there, and the parent of each instance stands before it
  pub instances_within : (s : ℕ) → s < length f.signals → (slice_index_or f.signals s (0, [])).0
      ≤ length f.places
  pub parents_before : (i : ℕ) → 1 ≤ i → i ≤ length f.places
      → (slice_index_or f.places (i - 1) (0, 0)).0 < i
  -- the steps have each signal once, after those that it depends on
  pub ordered : in_order (λ s. dependencies (driver_at f s)) [] f.steps ≡ true
  pub each_step : (s : ℕ) → s < length f.drivers → among f.steps s ≡ true
  pub step_count : length f.steps ≡ length f.drivers
  pub once : (i j : ℕ) → i < length f.steps → j < length f.steps → slice_index_or f.steps i 0
      ≡ slice_index_or f.steps j 0 → i ≡ j

-- every signal's value is what its driver makes of the values
abbrev pub FollowsDrivers : FlatOf → Type 0
FollowsDrivers f = (a : ℕ → Bool) (s : ℕ) → s < length f.drivers
    → value_of f a s ≡ driven f.rows a (value_of f a) (driver_at f s)
