-- The literals of the steps of a pair, and which steps get one.
use Rattle.std.specs.Prelude.{◌≡◌, ℕ, ◌<◌, Bool, true, false, List, length, Option, Some, IsSome}
use Rattle.std.specs.Prelude.{slice_index, slice_index_or}
use Rattle.eqc_xag.specs.declared.node.Node.{Node}
use Rattle.eqc_sweep.specs.Sweeping.{HasValue}
use Rattle.eqc_pair.specs.PairOf.{PairOf}
use Rattle.eqc_build.specs.Building.{reference_of}
use Rattle.eqc_build.specs.Steps.{StepsOf, steps_in, uses_of, value_at, first_root, second_root}
use Rattle.eqc_build.specs.Steps.{assumed_root}

-- whether a step or an output is marked
abbrev pub is_marked : List Bool → ℕ → Bool
is_marked marks k = slice_index_or marks k false

-- each literal of a table is one of the graph, and has the value of its step under all values of
-- the variables
pub record AreLiterals (p : PairOf) (nodes : List Node) (table : List (Option ℕ)) : Type 0 where
  pub each : (k l : ℕ) → reference_of table k ≡ Some l → HasValue nodes l (λ a. value_at p a k)

-- each marked step has a literal
pub record AreEntered (marks : List Bool) (table : List (Option ℕ)) : Type 0 where
  pub each : (k : ℕ) → is_marked marks k ≡ true → IsSome (reference_of table k)

-- there is a mark for each step, and what a marked step uses is marked
pub record AreClosed (g : StepsOf) (marks : List Bool) : Type 0 where
  pub size : length marks ≡ steps_in g.pair
  pub uses : (k c : ℕ) → k < steps_in g.pair → is_marked marks k ≡ true → c < length (uses_of g k)
      → is_marked marks (slice_index (uses_of g k) c) ≡ true

-- the steps of each of the first n outputs are marked, where the output is wanted
pub record HaveRoots (g : StepsOf) (wanted marks : List Bool) (n : ℕ) : Type 0 where
  pub each : (o : ℕ) → o < n → is_marked wanted o ≡ true → (is_marked marks (first_root g o) ≡ true)
      × (is_marked marks (second_root g o) ≡ true)

-- the step of the assumption's output is marked, if there is an assumption
pub record HasAssumed (g : StepsOf) (marks : List Bool) : Type 0 where
  pub each : (k : ℕ) → k < length (assumed_root g)
      → is_marked marks (slice_index (assumed_root g) k) ≡ true

-- the first n of these steps were marked, and no step above them
pub record AreMarked (old new : List Bool) (steps : List ℕ) (n : ℕ) : Type 0 where
  pub size : length new ≡ length old
  pub kept : (k : ℕ) → is_marked old k ≡ true → is_marked new k ≡ true
  pub there : (c : ℕ) → c < n → is_marked new (slice_index steps c) ≡ true
  pub only : (k : ℕ) → ((c : ℕ) → c < n → slice_index steps c < k)
      → is_marked new k ≡ is_marked old k
