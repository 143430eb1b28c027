use Rattle.eqc_literals.proofs.MovingLaws.{IsMoving}
use Rattle.eqc_literals.proofs.moving.moved.Given as goal

abbrev pub invariant-loop-literal : goal.invariant-loop-literal
invariant-loop-literal l = IsMoving l.literals l.table l.all.items l.literal-index
