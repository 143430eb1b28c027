use Rattle.eqc_report.specs.Evaluation.{IsWalk}
use Rattle.eqc_report.proofs.evaluating.walked_value.Given as goal

abbrev pub invariant-turns : goal.invariant-turns
invariant-turns l = IsWalk l.flat l.inputs l.walk
