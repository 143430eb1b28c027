use Rattle.eqc_literals.specs.Literals.{IsInside}
use Rattle.eqc_miter.proofs.entering.differences.Given as goal

abbrev pub invariant-loop-output : goal.invariant-loop-output
invariant-loop-output l = IsInside l.steps l.sweep l.literals
