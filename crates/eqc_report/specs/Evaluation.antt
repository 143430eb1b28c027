-- For proofs alone: what a walk over the signals of a flat netlist knows. No public promise cites
-- it.
use Rattle.std.specs.Prelude.{◌≡◌, ℕ, ◌<◌, Bool, false, List, length, slice_index, slice_index_or}
use Rattle.std.specs.Prelude.{Some, nat_eq}
use Rattle.indexmap.specs.IndexMap.{IndexMap, get}
use Rattle.eqc_netlist.specs.Graph.{FlatOf, value_of}
use Rattle.eqc_netlist.specs.Evaluating.{values_of}
use Rattle.eqc_report.specs.declared.evaluating.Walk.{Walk}

module _ {S : Type 0} where
  -- each value that is known is the signal's
  abbrev pub AreRight : FlatOf → List Bool → IndexMap ℕ Bool S → Type 0
  AreRight f inputs known = (s : ℕ) (b : Bool) → get nat_eq known s ≡ Some b
      → b ≡ value_of f (values_of inputs) s

  -- the values of these signals were read
  pub record AreRead (known : IndexMap ℕ Bool S) (signals : List ℕ) (read : List Bool) : Type 0
    where
      pub long : length read ≡ length signals
      pub each : (k : ℕ) → k < length signals → get nat_eq known (slice_index signals k)
          ≡ Some (slice_index_or read k false)

-- these are signals of the netlist
abbrev pub AreThere : FlatOf → List ℕ → Type 0
AreThere f signals = (k : ℕ) → k < length signals → slice_index signals k < length f.drivers

-- what is known is right, and what is asked for is there
pub record IsWalk (f : FlatOf) (inputs : List Bool) (walk : Walk) : Type 0 where
  pub right : AreRight f inputs walk.values
  pub there : AreThere f walk.asked.items
