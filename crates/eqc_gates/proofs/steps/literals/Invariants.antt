use Rattle.eqc_gates.proofs.EnteringLaws.{IsEntering}
use Rattle.eqc_gates.proofs.steps.literals.Given as goal

abbrev pub invariant-loop-step : goal.invariant-loop-step
invariant-loop-step g l = IsEntering l.steps.pair l.marks l.fn.sweep l.sweep l.table.items l.step
