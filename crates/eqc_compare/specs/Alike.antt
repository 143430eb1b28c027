-- What structures tell of a pair: outputs whose two signals have one structure are equal, and of
-- steps of one structure
-- one needs to be made.
use Rattle.std.specs.Prelude.{◌≡◌, ◌↔◌, ℕ, ◌-◌, ◌<◌, ◌≤◌, true, false, Bool, List, length, ltb}
use Rattle.std.specs.Prelude.{slice_index, None, if◌then◌else◌}
use Rattle.eqc_strash.specs.Structure.{Structure, structure_of}
use Rattle.eqc_pair.specs.PairOf.{PairOf, first_variables, second_variables, second_signals}
use Rattle.eqc_compare.specs.Comparing.{difference_at, told_at, is_chosen_at}
use Rattle.eqc_build.specs.Steps.{IsChoice, assumed_start, chosen_for}
use Rattle.eqc_build.specs.Turns.{is_marked, AreTurns}
use Rattle.eqc_compare.specs.declared.alike.Alike.{Alike}
use Rattle.eqc_compare.specs.declared.schedule.Schedule.{Schedule}

-- an output's signal in the first netlist has the structure of its signal in the second
abbrev pub IsAlike : PairOf → ℕ → Type 0
IsAlike p output =
    structure_of p.first (first_variables p) (slice_index p.first.output_signals output)
    ≡ structure_of p.second (second_variables p) (slice_index (second_signals p) output)

-- marked are exactly the outputs whose two signals have one structure
pub record TellAlike (p : PairOf) (marks : List Bool) : Type 0 where
  pub each : (o : ℕ) → o < length p.first.outputs → (is_marked marks o ≡ true) ↔ IsAlike p o

-- the structure of a step's signal
unfoldable pub step_structure : PairOf → ℕ → Structure
step_structure p k =
    if ltb k (length p.first.drivers)
    then structure_of p.first (first_variables p) (slice_index p.first.steps k)
    else structure_of p.second (second_variables p) (slice_index p.second.steps
    (k - length p.first.drivers))

-- in place of each step of the two netlists an earlier one of its structure is chosen, or itself,
-- and one for all steps of one
-- structure; the steps of an assumption are made themselves
pub record TellShared (p : PairOf) (chosen : List ℕ) : Type 0 where
  pub size : length chosen ≡ assumed_start p
  pub early : (k : ℕ) → k < assumed_start p → chosen_for chosen k ≤ k
  pub same : (k : ℕ) → k < assumed_start p → step_structure p (chosen_for chosen k)
      ≡ step_structure p k
  pub one : (j k : ℕ) → j < assumed_start p → k < assumed_start p → step_structure p j
      ≡ step_structure p k → chosen_for chosen j ≡ chosen_for chosen k

-- places have for each place in a row of classes the first one of its class
pub record AreFirst (row places : List ℕ) : Type 0 where
  pub size : length places ≡ length row
  pub early : (k : ℕ) → k < length row → slice_index places k ≤ k
  pub same : (k : ℕ) → k < length row → slice_index row (slice_index places k) ≡ slice_index row k
  pub one : (j k : ℕ) → j < length row → k < length row → slice_index row j ≡ slice_index row k
      → slice_index places j ≡ slice_index places k

-- outputs that are marked never differ
pub record AreEqual (p : PairOf) (marks : List Bool) : Type 0 where
  pub each : (o : ℕ) → o < length p.first.outputs → is_marked marks o ≡ true → difference_at p o
      ≡ None

-- what is known of a pair holds: outputs that are marked never differ, and a step that is chosen
-- has the value of those
-- that it is chosen for
pub record IsKnown (p : PairOf) (alike : Alike) : Type 0 where
  pub equal : AreEqual p alike.equal.items
  pub choice : IsChoice p alike.chosen.items

-- nothing is to be told of outputs that are marked: they are not chosen, or never differ. All
-- others are chosen
pub record AreSettled (p : PairOf) (marks : List Bool) : Type 0 where
  pub none : (o : ℕ) → o < length p.first.outputs → is_marked marks o ≡ true → told_at p o ≡ None
  pub chosen : (o : ℕ) → o < length p.first.outputs → is_marked marks o ≡ false → is_chosen_at p o
      ≡ true

-- what is compared of a pair: outputs that are marked need nothing, and each other one has its turn
pub record IsSchedule (p : PairOf) (schedule : Schedule) : Type 0 where
  pub pair : schedule.plan.steps.pair ≡ p
  pub turns : AreTurns schedule.plan schedule.settled.items
  pub settled : AreSettled p schedule.settled.items
