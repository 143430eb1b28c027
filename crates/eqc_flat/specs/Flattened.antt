-- What a flat netlist says of the hierarchy: its instances and signals are numbered in the order in
-- which the
-- hierarchy lists them, and each signal has the one driver that the hierarchy gives it.
use Rattle.std.specs.Prelude.{◌≡◌, ◌⊎◌, ℕ, ◌<◌, ◌≤◌, Bool, List, [], ◌∷◌, length, map, take}
use Rattle.std.specs.Prelude.{slice_index_or, Some, None}
use Rattle.std.specs.List.{flat_map, range_with_len}
use Rattle.eqc_blif.specs.Netlist.{ModelOf}
use Rattle.eqc_hierarchy.specs.Codes.{flat_code}
use Rattle.eqc_netlist.specs.declared.fault.FaultOfTwo.{FaultOfTwo}
use Rattle.eqc_netlist.specs.declared.fault.FaultOfTwo.TheVariants.{First, Second}
use Rattle.eqc_netlist.specs.Graph.{DriverOf, input, tie, cover, FlatOf, driver_at, value_of}
use Rattle.eqc_hierarchy.specs.Hierarchy.{model, model_at, paths}
use Rattle.eqc_hierarchy.specs.Signals.{SignalOf, SourceOf, from_input, from_signal, from_cover}
use Rattle.eqc_hierarchy.specs.Signals.{names_of, signals_at, signals, sources, output_value}

-- what stands for a signal where there is none
abbrev pub no_signal : SignalOf
no_signal = record { path = []; name = [] }

-- the instance of a number
abbrev pub path_at : List ModelOf → ℕ → ℕ → List ℕ
path_at library top i = slice_index_or (paths library top) i []

-- the model of the instance of a number
abbrev pub model_of : List ModelOf → ℕ → ℕ → ModelOf
model_of library top i = model library (model_at library top (path_at library top i))

-- the flat signal of a number
abbrev pub signal_at : List ModelOf → ℕ → ℕ → SignalOf
signal_at library top s = slice_index_or (signals library top) s no_signal

-- the number of the first signal of an instance
abbrev pub first_signal : List ModelOf → ℕ → ℕ → ℕ
first_signal library top i = length (flat_map (signals_at library top) (take i (paths library top)))

-- the signals of some names in an instance
abbrev pub signals_here : List ModelOf → ℕ → ℕ → List (List ℕ) → List SignalOf
signals_here library top i names = map (λ name. record {
  path = path_at library top i;
  name =
      name;
}) names

-- the signals of an instance, each with its number
abbrev pub named_here : List ModelOf → ℕ → ℕ → List (ℕ × List ℕ)
named_here library top i = map (λ name. (i, name)) (names_of (model_of library top i))

-- all flat signals, each with the number of its instance
abbrev pub all_named : List ModelOf → ℕ → List (ℕ × List ℕ)
all_named library top = flat_map (named_here library top)
    (range_with_len 0 (length (paths library top)))

-- a driver of numbered signals, as what drives a flat signal
abbrev pub source_of : (ℕ → SignalOf) → List (List (List ℕ)) → DriverOf → SourceOf
source_of signal rows (input position) = from_input position
source_of signal rows (tie other) = from_signal (signal other)
source_of signal rows (cover columns r) = from_cover (map signal columns) (slice_index_or rows r [])

-- the flat netlist of a library's main model
pub record IsFlatOf (library : List ModelOf) (top : ℕ) (f : FlatOf) : Type 0 where
  -- the main model's names, and the signals of its outputs
  pub inputs : f.inputs ≡ (model library top).inputs
  pub outputs : f.outputs ≡ (model library top).outputs
  pub output_signals : map (signal_at library top) f.output_signals
      ≡ map (λ name. record { path = []; name = name }) f.outputs
  -- each instance but the main model at its place, and each signal with its instance and name
  pub placed : paths library top ≡ [] ∷ map (λ place. place.1 ∷ path_at library top place.0)
      f.places
  pub parents : (i : ℕ) → i < length f.places → (slice_index_or f.places i (0, 0)).0 ≤ i
  pub named : signals library top ≡ map (λ s. record { path = path_at library top s.0; name = s.1 })
      f.signals
  pub named_within : (s : ℕ) → s < length f.signals → (slice_index_or f.signals s (0, [])).0
      ≤ length f.places
  -- what drives each signal
  pub sourced : (s : ℕ) → s < length f.drivers → sources library top (signal_at library top s)
      ≡ source_of (signal_at library top) f.rows (driver_at f s) ∷ []
  -- the values of the outputs
  pub values : (a : ℕ → Bool) (o : ℕ) → o < length f.outputs
      → value_of f a (slice_index_or f.output_signals o 0) ≡ output_value library top a
      (slice_index_or f.outputs o [])

-- why one of two models of a library has no flat netlist, want of memory or the code of its
-- hierarchy's fault: the first where it
-- has none, whatever the second. Each may have as many inputs as the limit
abbrev pub IsFaultOfTwo : List ModelOf → ℕ → ℕ → ℕ → FaultOfTwo → Type 0
IsFaultOfTwo library m n limit (First fault) = (fault.code ≡ 72)
    ⊎ (flat_code library m limit ≡ Some fault.code)
IsFaultOfTwo library m n limit (Second fault) = (flat_code library m limit ≡ None)
    × ((fault.code ≡ 72) ⊎ (flat_code library n limit ≡ Some fault.code))
