-- The values of steps under one assignment.
use Rattle.std.specs.Prelude.{◌≡◌, ℕ, ◌<◌, Bool, false, List, length, slice_index_or}
use Rattle.eqc_pair.specs.PairOf.{PairOf}
use Rattle.eqc_build.specs.Steps.{value_at}

-- each value in a table is that of its step
pub record AreValues (p : PairOf) (a : ℕ → Bool) (table : List Bool) : Type 0 where
  pub each : (k : ℕ) → k < length table → slice_index_or table k false ≡ value_at p a k
