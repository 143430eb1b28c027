use Rattle.eqc_gates.proofs.MarkLaws.{HaveRootsSoFar, AreClosedFrom}
use Rattle.eqc_gates.proofs.marks.needed.Given as goal

abbrev pub invariant-loop-output : goal.invariant-loop-output
invariant-loop-output l = HaveRootsSoFar l.steps l.outputs l.marks.items l.output

abbrev pub invariant-steps : goal.invariant-steps
invariant-steps l = AreClosedFrom l.steps l.outputs l.marks.items l.step

abbrev pub decreases-steps : goal.decreases-steps
decreases-steps l = l.step
