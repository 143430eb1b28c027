-- What a comparison of two flat netlists finds.
use Rattle.std.specs.Prelude.{◌≡◌, ℕ, ◌<◌, Bool, true, ◌&&◌, List, length, map, slice_index}
use Rattle.std.specs.Prelude.{slice_index_or, [], Option, None, Vec, All, if◌then◌else◌}
use Rattle.std.specs.declared.alloc.Global.{Global}
use Rattle.std.specs.Option.{option_map, option_map_or}
use Rattle.eqc_netlist.specs.Graph.{FlatOf, value_of}
use Rattle.eqc_build.specs.Steps.{inputs_under}
use Rattle.eqc_pair.specs.PairOf.{PairOf, first_variables, second_variables, assumed_variables}
use Rattle.eqc_pair.specs.PairOf.{second_signals}
use Rattle.eqc_pair.specs.Matched.{position_of, is_chosen, chosen_outputs}
use Rattle.eqc_compare.specs.Verdict.{NetlistOf, VerdictOf, vacuous, compared, is_different}
use Rattle.eqc_compare.specs.Verdict.{least_difference, differences, told, verdict}
use Rattle.eqc_compare.specs.declared.outcome.Difference.{Difference}
use Rattle.eqc_compare.specs.declared.outcome.Outcome.{Outcome}
use Rattle.eqc_compare.specs.declared.outcome.Outcome.TheVariants.{Vacuous, Compared}

-- a flat netlist as its user sees it
abbrev pub netlist_of : FlatOf → NetlistOf
netlist_of f = record {
  inputs = f.inputs;
  outputs = f.outputs;
  value = λ output a. value_of f a (slice_index f.output_signals (position_of f.outputs output));
}

-- the assumption of a pair, if there is one
abbrev pub assumption_of : PairOf → Option NetlistOf
assumption_of p = option_map netlist_of p.assumes

-- whether the signals of an output have different values, under values of a pair's variables
unfoldable pub values_differ_at : PairOf → ℕ → (ℕ → Bool) → Bool
values_differ_at p output a =
    is_different
    (value_of p.first (inputs_under (first_variables p) a) (slice_index p.first.output_signals
    output))
    (value_of p.second (inputs_under (second_variables p) a) (slice_index (second_signals p)
    output))

-- whether the assumption allows values of a pair's variables
unfoldable pub allowed_at : PairOf → (ℕ → Bool) → Bool
allowed_at p a = option_map_or (λ h. value_of h (inputs_under (assumed_variables p) a)
    (slice_index h.output_signals 0)) p.assumes true

-- whether an output differs under values of a pair's variables
unfoldable pub differs_at : PairOf → ℕ → (ℕ → Bool) → Bool
differs_at p output a = allowed_at p a && values_differ_at p output a

-- a function is true where an output differs
pub record SaysDifference (p : PairOf) (output : ℕ) (f : (ℕ → Bool) → Bool) : Type 0 where
  pub each : (a : ℕ → Bool) → f a ≡ differs_at p output a

-- the least assignment under which the output at a position differs
abbrev pub difference_at : PairOf → ℕ → Option (List Bool)
difference_at p output = least_difference (netlist_of p.first) (netlist_of p.second)
    (assumption_of p) (slice_index_or p.first.outputs output [])

-- that assignment is found, or none where there is none
abbrev pub IsDifferenceAt : PairOf → ℕ → Option (Vec Bool Global) → Type 0
IsDifferenceAt p output found = option_map (λ v. v.items) found ≡ difference_at p output

-- whether the output at a position is chosen, and what is told of it: nothing where it isn't
abbrev pub is_chosen_at : PairOf → ℕ → Bool
is_chosen_at p output = is_chosen p.chosen (slice_index_or p.first.outputs output [])

abbrev pub told_at : PairOf → ℕ → Option (List Bool)
told_at p output = if is_chosen_at p output then difference_at p output else None

-- the chosen outputs that differ
abbrev pub differences_in : PairOf → List (List ℕ × List Bool)
differences_in p = differences (netlist_of p.first) (netlist_of p.second) (assumption_of p)
    (chosen_outputs p.chosen p.first.outputs)

-- outputs by their positions with assignments, as outputs by their names
abbrev pub found_in : FlatOf → List Difference → List (List ℕ × List Bool)
found_in f found = map (λ d. (slice_index_or f.outputs d.output [], d.values.items)) found

-- the chosen outputs that differ are found, or the first of them alone
pub record AreTold (p : PairOf) (every : Bool) (found : List Difference) : Type 0 where
  pub told_are : found_in p.first found ≡ told every (differences_in p)
  pub within : All (λ d. d.output < length p.first.outputs) found

-- what the comparison of a pair says
abbrev pub verdict_of : PairOf → Bool → VerdictOf
verdict_of p every = verdict every (netlist_of p.first) (netlist_of p.second) (assumption_of p)
    (chosen_outputs p.chosen p.first.outputs)

-- what was found, by names of outputs; and the differences in it
abbrev pub outcome_of : FlatOf → Outcome → VerdictOf
outcome_of f Vacuous = vacuous
outcome_of f (Compared found) = compared (found_in f found.items)

abbrev pub found_differences : Outcome → List Difference
found_differences Vacuous = []
found_differences (Compared found) = found.items

-- it is found, by positions of outputs that are there
pub record IsOutcome (p : PairOf) (every : Bool) (outcome : Outcome) : Type 0 where
  pub found : outcome_of p.first outcome ≡ verdict_of p every
  pub within : All (λ d. d.output < length p.first.outputs) (found_differences outcome)
