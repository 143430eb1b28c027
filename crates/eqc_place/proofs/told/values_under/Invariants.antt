use Rattle.eqc_pair.specs.PairOf.{input_values}
use Rattle.eqc_place.proofs.ToldLaws.{IsFilling}
use Rattle.eqc_place.proofs.told.values_under.Given as goal

abbrev pub invariant-loop-step : goal.invariant-loop-step
invariant-loop-step l = IsFilling l.steps.pair (input_values l.steps.pair l.inputs) l.table.items
    l.step
