-- Comparing the outputs of a pair in turn, while diagrams of steps are kept from one turn to the
-- next.
use Rattle.std.specs.Prelude.{◌≡◌, ℕ, ◌+◌, ◌<◌, ◌≤◌, Bool, false, List, Option, length, slice_index}
use Rattle.std.specs.Prelude.{slice_index_or}
use Rattle.eqc_tree.specs.Holding.{Entry, Holding}
use Rattle.eqc_pair.specs.PairOf.{PairOf}
use Rattle.eqc_build.specs.Building.{IsBuilt, OwnsTable, Moves}
use Rattle.eqc_build.specs.Steps.{goals_of, steps_in}
use Rattle.eqc_build.specs.Demand.{IsCounted, needed_uses}
use Rattle.eqc_build.specs.Schedule.{end_of, AreLastMoments, AreUsedUntil, AreWithin}
use Rattle.eqc_build.specs.declared.plan.Plan.{Plan}

-- whether an output is marked
abbrev pub is_marked : List Bool → ℕ → Bool
is_marked marks output = slice_index_or marks output false

-- the turn, counted from 1, of some steps: they are used until then, or later
pub record IsTurn (plan : Plan) (goals : List ℕ) (turn : ℕ) : Type 0 where
  pub some : 1 ≤ turn
  pub within : AreWithin plan.steps goals
  pub moments : AreLastMoments plan.steps plan.last
  pub ends : AreUsedUntil plan.last goals (end_of plan.steps turn)

-- every output that is not marked has its turn, in the order of the outputs, whose turns 32 bits
-- number
pub record AreTurns (plan : Plan) (marks : List Bool) : Type 0 where
  pub each : (o : ℕ) → o < length plan.steps.pair.first.outputs → is_marked marks o ≡ false
      → IsTurn plan (goals_of plan.steps o) (o + 1)
  pub few : length plan.steps.pair.first.outputs ≤ 4294967295

-- how often each step is used is counted, where outputs that are not marked need it, and until when
-- it is a root of one
pub record IsDemand (plan : Plan) (marks : List Bool) : Type 0 where
  pub uses : (s : ℕ) → s < steps_in plan.steps.pair
      → IsCounted 0 (slice_index plan.demand.uses.items s) (needed_uses plan.steps plan.last s
      (steps_in plan.steps.pair))
  pub roots : (o : ℕ) → o < length plan.steps.pair.first.outputs → is_marked marks o ≡ false
      → AreUsedUntil plan.demand.roots.items (goals_of plan.steps o) (end_of plan.steps (o + 1))

-- what is kept for a pair: references that are held, of its steps
pub record AreKept {X : Type 0} (entry : X → Entry) (p : PairOf) (d : Holding)
    (table : List (Option X)) : Type 0 where
  pub variables : length p.first.inputs ≤ d.variables
  pub built : IsBuilt entry p table
  pub owned : OwnsTable entry d table

-- what is kept becomes other references of such steps: what the table gains the object gains
pub record MovesKept {X : Type 0} (entry : X → Entry) (p : PairOf) (old : Holding)
    (old_table : List (Option X)) (new : Holding) (new_table : List (Option X)) : Type 0 where
  pub moves : Moves entry old old_table new new_table
  pub built : IsBuilt entry p new_table

-- an output may be compared in its turn, with what is kept
pub record IsComparable {X : Type 0} (entry : X → Entry) (plan : Plan) (d : Holding)
    (table : List (Option X)) (output n : ℕ) : Type 0 where
  pub within : output < length plan.steps.pair.first.outputs
  pub turn : IsTurn plan (goals_of plan.steps output) n
  pub kept : AreKept entry plan.steps.pair d table
