use Rattle.eqc_compare.proofs.AlikeLaws.{AreSettledBelow}
use Rattle.eqc_compare.proofs.alike.settled_outputs.Given as goal

abbrev pub invariant-loop-output : goal.invariant-loop-output
invariant-loop-output l = AreSettledBelow l.pair l.marks.items l.output
