use Rattle.eqc_build.specs.Schedule.{IsRaised}
use Rattle.eqc_build.proofs.schedule.raise_goals.Given as goal

abbrev pub invariant-loop-k : goal.invariant-loop-k
invariant-loop-k l = IsRaised l.initial.last.items l.last.items l.goals l.k l.at
