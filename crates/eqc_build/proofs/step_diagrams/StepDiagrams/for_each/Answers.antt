use Rattle.std.proofs.Common.{arith}
use Rattle.eqc_pair.proofs.AssumptionLemmas.{assumed_flat}
use Rattle.eqc_build.proofs.step_diagrams.StepDiagrams.for_each.Goals as goal

pub overflow_add-netlists : goal.overflow_add-netlists
overflow_add-netlists g c =
    omega (
      arith,
      c.first_places.ensures.each.size,
      c.second_places.ensures.each.size,
      c.recall_laws.ensures.first_flat.few_signals,
      c.recall_laws.ensures.second_flat.few_signals,
    )

pub overflow_add-count : goal.overflow_add-count
overflow_add-count g c =
    omega (
      arith,
      c.first_places.ensures.each.size,
      c.second_places.ensures.each.size,
      c.assumed_places.ensures.each.size,
      c.recall_laws.ensures.first_flat.few_signals,
      c.recall_laws.ensures.second_flat.few_signals,
      (assumed_flat c.args.pair.now c.recall_laws.ensures).few_signals,
    )

pub returns-clause-size : goal.returns-clause-size
returns-clause-size g c = omega (
  arith,
  c.in_ok-table.ensures.size,
  c.first_places.ensures.each.size,
  c.second_places.ensures.each.size,
  c.assumed_places.ensures.each.size,
)
