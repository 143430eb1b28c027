-- Of which outputs a run tells that was stopped: those of the pair that is made of what it was
-- given.
use Rattle.std.specs.Prelude.{◌≡◌, ◌⊎◌, ℕ, Bool, false, List, Option, Some, None, Result, Ok, Err}
use Rattle.std.specs.Prelude.{IfOk, IfErr, is_some}
use Rattle.eqc_netlist.specs.Graph.{FlatOf}
use Rattle.eqc_flat.specs.Flattened.{IsFlatOf}
use Rattle.eqc_pair.specs.PairOf.{PairOf}
use Rattle.eqc_compare.specs.Alike.{AreEqual}
use Rattle.eqc_report.specs.Left.{IsTold, KeepsTold}
use Rattle.eqc_report.specs.Seen.{IsLeftOf}
use Rattle.eqc_report.specs.declared.report.Report.{Report}
use Rattle.eqc_report.specs.declared.report.Report.TheVariants as report
use Rattle.eqc_report.specs.declared.undecided.Left.{Left}
use Rattle.eqc_report.specs.declared.undecided.Undecided.{Undecided}
use Rattle.eqc_tree.specs.declared.stopping.Stop.{Stop}
use Rattle.eqc_tree.specs.declared.stopping.Stop.TheVariants.{Memory}
use Rattle.eqc_case.specs.Answer.{MainOf, GivenOf, first_found, second_found, assumption_found}
use Rattle.eqc_case.specs.Sources.{given_of}
use Rattle.eqc_case.specs.declared.given.Case.{Case}

-- ---- the pair of what a run is given

-- the flat netlist of a main model that is found
abbrev pub IsFlatFound : Result MainOf (ℕ × ℕ) → FlatOf → Type 0
IsFlatFound (Ok m) f = IsFlatOf m.0 m.1 f
IsFlatFound (Err fault) f = ⊥

-- that of an assumption's text of so many bytes at most, where there is one
abbrev pub IsFlatAssumed : ℕ → Option (List ℕ) → Option FlatOf → Type 0
IsFlatAssumed limit None None = Unit {0}
IsFlatAssumed limit None (Some h) = ⊥
IsFlatAssumed limit (Some text) None = ⊥
IsFlatAssumed limit (Some text) (Some h) = IsFlatFound (assumption_found limit text) h

-- a pair with an assumption of a main model that is found, in place of its own
pub record IsUnder (found : Result MainOf (ℕ × ℕ)) (old p : PairOf) : Type 0 where
  pub netlist : FlatOf
  pub flat : IsFlatFound found netlist
  pub pair : p ≡ record old { assumes = Some netlist }

-- the pair of two flat netlists, with the assumption and the outputs that a run is given
pub record IsPairOfFlats (given : GivenOf) (f g : FlatOf) (p : PairOf) : Type 0 where
  pub first : p.first ≡ f
  pub second : p.second ≡ g
  pub assumes : IsFlatAssumed given.options.bytes given.assume p.assumes
  pub chosen : p.chosen ≡ given.outputs

-- that of two main models that are found
pub record IsPairOfFound (given : GivenOf) (first second : Result MainOf (ℕ × ℕ)) (p : PairOf) :
    Type 0 where
  pub flat : IsFlatFound first p.first
  pub other : IsFlatFound second p.second
  pub assumes : IsFlatAssumed given.options.bytes given.assume p.assumes
  pub chosen : p.chosen ≡ given.outputs

-- that of the models that a run compares
abbrev pub IsPairOfGiven : GivenOf → PairOf → Type 0
IsPairOfGiven given p = IsPairOfFound given (first_found given.options.bytes given.texts)
    (second_found given.options.bytes given.texts) p

-- ---- what is told of it

-- the comparison of a pair is given up: outputs that are compared and aren't left never differ
pub record IsGivenUp (p : PairOf) (left : Left) : Type 0 where
  pub marks : List Bool
  pub equal : AreEqual p marks
  pub told : IsTold p marks left

-- a stop tells which outputs of a pair are left; for want of memory there may be none told
abbrev pub TellsLeft : PairOf → Undecided → Undecided → Stop → Type 0
TellsLeft p old new stop = IsGivenUp p new.left ⊎ ((stop ≡ Memory) × KeepsTold old new)

-- a comparison of a pair was made: where it was given up that is told, and what was seen differs in
-- that pair
pub record IsToldOfPair {A : Type 0} (p : PairOf) (result : Result A Stop) (old new : Undecided) :
    Type 0 where
  pub seen : IsLeftOf p old → IsLeftOf p new
  pub kept : IfOk result (λ _. KeepsTold old new)
  pub left : IfErr result (TellsLeft p old new)

-- the same of a pair of a kind, or none was compared, and without want of memory there is no stop
-- then
pub data IsToldOf {A : Type 0} (P : PairOf → Type 0) (result : Result A Stop)
    (old new : Undecided) : Type 0 where
  none_compared : IfErr result (λ stop. stop ≡ Memory) → new ≡ old → IsToldOf P result old new
  was_compared : (p : PairOf) → P p → IsToldOfPair p result old new → IsToldOf P result old new

-- no output is told as left, and none as seen to differ
pub record IsNoneTold (left : Undecided) : Type 0 where
  pub count : left.left.count ≡ 0
  pub seen : is_some left.seen ≡ false

-- what a run tells that was stopped, of what was read for it
pub data IsStopToldOf (given : GivenOf) (stop : Stop) (left : Undecided) : Type 0 where
  of_none : stop ≡ Memory → IsNoneTold left → IsStopToldOf given stop left
  of_pair : (p : PairOf) → IsPairOfGiven given p → IsLeftOf p left → IsGivenUp p left.left
      ⊎ ((stop ≡ Memory) × (left.left.count ≡ 0)) → IsStopToldOf given stop left

-- beside a report that is a stop the outputs are told that are left
abbrev pub IsToldBeside : GivenOf → Report → Undecided → Type 0
IsToldBeside given report.Equivalent left = Unit {0}
IsToldBeside given (report.Differs differences) left = Unit {0}
IsToldBeside given report.Vacuous left = Unit {0}
IsToldBeside given (report.Refused refusal) left = Unit {0}
IsToldBeside given (report.Stopped stop) left = IsStopToldOf given stop left

-- what is told beside a report is told of what was read for it, and where nothing was, nothing is
-- told
abbrev pub IsLeftBeside : Option Case → Report → Undecided → Type 0
IsLeftBeside None report left = IsNoneTold left
IsLeftBeside (Some case) report left = IsToldBeside (given_of case) report left
