-- For the proofs alone: the values of the signals of a flat netlist while they are found, one after
-- the other.
use Rattle.std.specs.Prelude.{◌≡◌, ℕ, ◌<◌, Bool, List, length, slice_index}
use Rattle.eqc_netlist.specs.Graph.{FlatOf, value_of}
use Rattle.eqc_netlist.specs.Evaluating.{values_of}

-- the signals of the first k steps have their values
pub record AreKnown (f : FlatOf) (a : ℕ → Bool) (values : List Bool) (k : ℕ) : Type 0 where
  pub size : length values ≡ length f.drivers
  pub known : (i : ℕ) → i < k → values_of values (slice_index f.steps i)
      ≡ value_of f a (slice_index f.steps i)
