use Rattle.eqc_build.proofs.ScheduleLaws.{AreEnded}
use Rattle.eqc_build.proofs.schedule.output_moments.Given as goal

abbrev pub invariant-loop-o : goal.invariant-loop-o
invariant-loop-o l = AreEnded l.steps l.marks l.last.items l.o
