use Rattle.eqc_gates.specs.Entering.{AreMarked}
use Rattle.eqc_gates.proofs.marks.mark_all.Given as goal

abbrev pub invariant-loop-c : goal.invariant-loop-c
invariant-loop-c l = AreMarked l.fn.marks.items l.marks.items l.steps l.c
