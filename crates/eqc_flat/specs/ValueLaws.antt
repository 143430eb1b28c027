-- Laws of the values of flat signals, for readers of the definitions.
use Rattle.std.specs.Prelude.{◌≡◌, ℕ, suc, ◌+◌, ◌<◌, Bool, true, List, length, map, Some, None}
use Rattle.std.specs.Prelude.{is_some, slice_get}
use Rattle.eqc_blif.specs.Netlist.{ModelOf}
use Rattle.eqc_hierarchy.specs.Hierarchy.{model}
use Rattle.eqc_hierarchy.specs.Signals.{SignalOf, from_cover, signals, sources, value_at}
use Rattle.eqc_flat.specs.Flattened.{signal_at}
use Rattle.eqc_hierarchy.specs.Codes.{flat_code}

-- a value at a depth is the value at every greater depth
abbrev pub ValuesStay : Type 0
ValuesStay = (library : List ModelOf) (top : ℕ) (a : ℕ → Bool) (d more : ℕ) (s : SignalOf)
    (v : Bool) → value_at library top a d s ≡ Some v → value_at library top a (more + d) s ≡ Some v

-- whether a signal has a value at a depth does not depend on the inputs' values
abbrev pub ValuesAreThereForAll : Type 0
ValuesAreThereForAll = (library : List ModelOf) (top : ℕ) (a b : ℕ → Bool) (d : ℕ) (s : SignalOf)
    → is_some (value_at library top a d s) ≡ is_some (value_at library top b d s)

-- each signal of an accepted netlist has a value under every assignment
abbrev pub AcceptedHaveValues : Type 0
AcceptedHaveValues =
    (library : List ModelOf) (top limit : ℕ) → flat_code library top limit ≡ None
    → (a : ℕ → Bool) (s : ℕ) → s < length (signals library top)
    → is_some (value_at library top a (length (signals library top)) (signal_at library top s))
    ≡ true

-- the value of a signal at a depth depends on the values of the main model's inputs alone
abbrev pub ValuesDependOnInputsAlone : Type 0
ValuesDependOnInputsAlone =
    (library : List ModelOf) (top : ℕ) (a b : ℕ → Bool)
    → ((k : ℕ) → k < length (model library top).inputs → a k ≡ b k)
    → (d : ℕ) (s : SignalOf) → value_at library top a d s ≡ value_at library top b d s

-- the value of a signal that a cover drives depends on the values of the cover's columns alone
abbrev pub CoversDependOnColumnsAlone : Type 0
CoversDependOnColumnsAlone =
    (library : List ModelOf) (top : ℕ) (a b : ℕ → Bool) (d : ℕ) (s : SignalOf)
    (columns : List SignalOf) (rows : List (List ℕ))
    → slice_get (sources library top s) 0 ≡ Some (from_cover columns rows)
    → map (value_at library top a d) columns ≡ map (value_at library top b d) columns
    → value_at library top a (suc d) s ≡ value_at library top b (suc d) s
