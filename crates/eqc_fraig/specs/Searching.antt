-- What is found of a pair in the graph of its steps, without a diagram.
use Rattle.std.specs.Prelude.{◌≡◌, ◌<◌, Bool, true, length, ⊤}
use Rattle.eqc_witness.specs.declared.witness.Witness.TheVariants.{Unknown}
use Rattle.eqc_pair.specs.PairOf.{PairOf}
use Rattle.eqc_compare.specs.Comparing.{is_chosen_at, IsOutcome}
use Rattle.eqc_miter.specs.Asking.{IsWitnessAt}
use Rattle.eqc_fraig.specs.declared.searching.Searched.{Searched}
use Rattle.eqc_fraig.specs.declared.searching.Searched.TheVariants.{Found, Open, Unasked}

-- what is found of a pair: what its comparison has to find; or an output that is chosen and may
-- differ; or nothing
abbrev pub IsSearched : PairOf → Bool → Searched → Type 0
IsSearched p every (Found outcome) = IsOutcome p every outcome
IsSearched p every (Open output seen) = (output < length p.first.outputs)
    × (is_chosen_at p output ≡ true) × IsWitnessAt p output (Unknown seen)
IsSearched p every Unasked = ⊤
