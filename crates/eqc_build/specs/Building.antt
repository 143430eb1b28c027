-- The diagrams of the steps of a pair, while they are built.
use Rattle.std.specs.Prelude.{◌≡◌, ℕ, ◌+◌, ◌<◌, ◌≤◌, Bool, List, length, Option, Some, None}
use Rattle.std.specs.Prelude.{slice_index, slice_index_or, sum_by, IsSome, slice_set, ◌⊎◌}
use Rattle.eqc_tree.specs.Holding.{Entry, Holding, copies, weight, says}
use Rattle.eqc_netlist.specs.Graph.{FlatOf}
use Rattle.eqc_pair.specs.PairOf.{PairOf}
use Rattle.eqc_build.specs.Steps.{steps_in, value_at}
use Rattle.eqc_build.specs.Demand.{IsOfUse}
use Rattle.eqc_build.specs.declared.plan.Plan.{Plan}

-- how often an entry is held by what may be a reference
abbrev pub held_by : {X : Type 0} → (X → Entry) → Entry → Option X → ℕ
held_by entry e None = 0
held_by entry e (Some r) = weight (entry r) e

-- how often an entry is held by the references of a table
abbrev pub tally : {X : Type 0} → (X → Entry) → List (Option X) → Entry → ℕ
tally entry table e = sum_by (held_by entry e) table

-- the references of a table are held
pub record OwnsTable {X : Type 0} (entry : X → Entry) (d : Holding) (table : List (Option X)) : Type
    0 where
  pub held : (e : Entry) → tally entry table e ≤ copies d e

-- an object and a table: what one gains the other gains
pub record Moves {X : Type 0} (entry : X → Entry) (old : Holding) (old_table : List (Option X))
    (new : Holding) (new_table : List (Option X)) : Type 0 where
  pub variables : new.variables ≡ old.variables
  pub held : (e : Entry) → copies new e + tally entry old_table e ≡ copies old e
      + tally entry new_table e

abbrev pub reference_of : {X : Type 0} → List (Option X) → ℕ → Option X
reference_of table s = slice_index_or table s None

-- the references of a table say the values of their steps
pub record IsBuilt {X : Type 0} (entry : X → Entry) (p : PairOf) (table : List (Option X)) : Type 0
  where
    pub size : length table ≡ steps_in p
    pub values : (k : ℕ) (r : X) → reference_of table k ≡ Some r → (a : ℕ → Bool) → says (entry r) a
        ≡ value_at p a k

-- each of these steps has a reference
pub record AreReady {X : Type 0} (table : List (Option X)) (steps : List ℕ) : Type 0 where
  pub each : (k : ℕ) → k < length steps → IsSome (reference_of table (slice_index steps k))

-- the variables of a netlist's inputs
pub record AreVariables (f : FlatOf) (variables : List ℕ) (n : ℕ) : Type 0 where
  pub size : length variables ≡ length f.inputs
  pub below : (p : ℕ) → p < length variables → slice_index variables p < n

-- a reference came into the table for a step
pub record Fills {X : Type 0} (entry : X → Entry) (old : Holding) (old_table : List (Option X))
    (new : Holding) (new_table : List (Option X)) (s : ℕ) (r : X) : Type 0 where
  pub table : new_table ≡ slice_set old_table s (Some r)
  pub variables : new.variables ≡ old.variables
  pub held : (e : Entry) → copies new e + tally entry old_table e + weight (entry r) e
      ≡ copies old e + tally entry new_table e

-- the reference of a step was given back
pub record Empties {X : Type 0} (entry : X → Entry) (old : Holding) (old_table : List (Option X))
    (new : Holding) (new_table : List (Option X)) (s : ℕ) : Type 0 where
  pub table : new_table ≡ slice_set old_table s None
  pub moves : Moves entry old old_table new new_table

-- whether a step is used for the last time at a moment, of all or of this turn
abbrev pub IsLastUse : Plan → List ℕ → ℕ → ℕ → Type 0
IsLastUse plan until s at = (slice_index plan.last s ≡ at) ⊎ (slice_index until s ≡ at)

-- references that are used for the last time at this moment were given back, and none that is of
-- use later
pub record Releases {X : Type 0} (entry : X → Entry) (old : Holding) (old_table : List (Option X))
    (new : Holding) (new_table : List (Option X))
    (plan : Plan) (used : List ℕ) (until : List ℕ) (at : ℕ) : Type 0 where
  pub size : length new_table ≡ length old_table
  pub moves : Moves entry old old_table new new_table
  pub kept : (s : ℕ) → (IsLastUse plan until s at → ⊥) → reference_of new_table s
      ≡ reference_of old_table s
  pub later : (s : ℕ) → IsOfUse plan used s at → reference_of new_table s ≡ reference_of old_table s
  pub none_new : (s : ℕ) (r : X) → reference_of new_table s ≡ Some r → reference_of old_table s
      ≡ Some r

-- a step has a reference now, and those that had one still have it
pub record Adds {X : Type 0} (entry : X → Entry) (p : PairOf) (old : Holding)
    (old_table : List (Option X)) (new : Holding) (new_table : List (Option X)) (k : ℕ) : Type 0
  where
    pub moves : Moves entry old old_table new new_table
    pub built : IsBuilt entry p new_table
    pub here : IsSome (reference_of new_table k)
    pub kept : (i : ℕ) → IsSome (reference_of old_table i) → IsSome (reference_of new_table i)

-- a step was made at a moment: it has a reference, those that had one still have it, and those that
-- are used for the last
-- time at this moment, and aren't of use later, may have none
pub record Advances {X : Type 0} (entry : X → Entry) (plan : Plan) (until : List ℕ) (old : Holding)
    (old_table : List (Option X)) (new : Holding)
    (new_table : List (Option X)) (used : List ℕ) (k at : ℕ) : Type 0 where
  pub moves : Moves entry old old_table new new_table
  pub built : IsBuilt entry plan.steps.pair new_table
  pub here : (IsLastUse plan until k at → ⊥) → IsSome (reference_of new_table k)
  pub kept : (i : ℕ) → (IsLastUse plan until i at → ⊥) → IsSome (reference_of old_table i)
      → IsSome (reference_of new_table i)
  pub later : (i : ℕ) → IsOfUse plan used i at → IsSome (reference_of old_table i)
      → IsSome (reference_of new_table i)

-- a table has no reference more, and those that are of use after a moment are still there
pub record KeepsLater {X : Type 0} (plan : Plan) (used : List ℕ) (old_table new_table : List
    (Option X)) (at : ℕ) : Type 0 where
  pub size : length new_table ≡ length old_table
  pub none_new : (s : ℕ) (r : X) → reference_of new_table s ≡ Some r → reference_of old_table s
      ≡ Some r
  pub kept : (s : ℕ) → IsOfUse plan used s at → reference_of new_table s ≡ reference_of old_table s
