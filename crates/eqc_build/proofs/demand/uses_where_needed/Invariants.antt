use Rattle.eqc_build.specs.Steps.{steps_in}
use Rattle.eqc_build.proofs.DemandLaws.{AreNeeded}
use Rattle.eqc_build.proofs.demand.uses_where_needed.Given as goal

abbrev pub invariant-loop-k : goal.invariant-loop-k
invariant-loop-k l = AreNeeded l.steps l.last l.uses.items (steps_in l.steps.pair) l.k
