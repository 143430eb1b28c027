-- Laws of hierarchies, for readers of the definitions.
use Rattle.std.specs.Prelude.{◌≡◌, ◌⊎◌, ◌↔◌, ℕ, ◌<◌, true, false, List, [], ◌∷◌, ◌++◌, length}
use Rattle.std.specs.Prelude.{Contains, None, Some}
use Rattle.std.specs.List.{flat_map}
use Rattle.eqc_blif.specs.Netlist.{ModelOf}
use Rattle.eqc_netlist.specs.Names.{is_named}
use Rattle.eqc_hierarchy.specs.Hierarchy.{model, callees, model_at}
use Rattle.eqc_hierarchy.specs.Signals.{SignalOf, cover_names, actuals, signals, sources, needs}
use Rattle.eqc_hierarchy.specs.Codes.{is_recursive, flat_code}
use Rattle.eqc_flat.specs.Flattened.{signal_at}

-- an instance: the main model, or a `.subckt` of the model of an instance
pub data IsInstance (library : List ModelOf) (top : ℕ) : List ℕ → Type 0 where
  main : IsInstance library top []
  inner : (position : ℕ) (path : List ℕ) → IsInstance library top path
      → position < length (callees library (model_at library top path))
      → IsInstance library top (position ∷ path)

-- what is reached by one step or more, where `next` lists what one step reaches
pub data Reaches {X : Type 0} (next : X → List X) : X → X → Type 0 where
  directly : (x y : X) → Contains (next x) y → Reaches next x y
  through : (x y z : X) → Contains (next x) y → Reaches next y z → Reaches next x z

-- the signals that a flat signal depends on by one step: those that what drives it needs
abbrev pub needed : List ModelOf → ℕ → SignalOf → List SignalOf
needed library top s = flat_map needs (sources library top s)

-- where a name occurs in a model: as an input, an output, in a cover or as an actual
abbrev pub occurring : ModelOf → List (List ℕ)
occurring m = m.inputs ++ m.outputs ++ flat_map cover_names m.covers ++ flat_map actuals m.instances

-- no flat signal stands twice in the list of signals
abbrev pub SignalsStandOnce : Type 0
SignalsStandOnce = (library : List ModelOf) (top i j : ℕ) → i < length (signals library top)
    → j < length (signals library top) → signal_at library top i ≡ signal_at library top j → i ≡ j

-- without recursion a signal stands in the list exactly when its path is an instance, in whose
-- model its name occurs
abbrev pub SignalsAreNamesOfInstances : Type 0
SignalsAreNamesOfInstances =
    (library : List ModelOf) (top : ℕ) → is_recursive library top ≡ false → (s : SignalOf)
    → ((k : ℕ) × (k < length (signals library top)) × (signal_at library top k ≡ s))
    ↔ (IsInstance library top s.path
    × (is_named (occurring (model library (model_at library top s.path))) s.name ≡ true))

-- the condition of code 22 holds exactly when the main model is or reaches a model that reaches
-- itself
abbrev pub RecursiveWhereReached : Type 0
RecursiveWhereReached =
    (library : List ModelOf) (top : ℕ) → top < length library
    → (is_recursive library top ≡ true) ↔ ((m : ℕ) × ((m ≡ top) ⊎ Reaches (callees library) top m)
    × Reaches (callees library) m m)

-- a netlist that no other code refuses has code 28 exactly when some flat signal depends on itself
abbrev pub CyclicWhereReached : Type 0
CyclicWhereReached =
    (library : List ModelOf) (top limit : ℕ) → (flat_code library top limit ≡ None)
    ⊎ (flat_code library top limit ≡ Some 28)
    → (flat_code library top limit ≡ Some 28)
    ↔ ((k : ℕ)
    × (k < length (signals library top))
    × Reaches (needed library top) (signal_at library top k) (signal_at library top k))
