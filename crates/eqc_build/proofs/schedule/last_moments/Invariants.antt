use Rattle.std.proofs.Common.{◌≤◌}
use Rattle.eqc_build.specs.Steps.{steps_in}
use Rattle.eqc_build.proofs.ScheduleLaws.{AreMomentsFrom}
use Rattle.eqc_build.proofs.schedule.last_moments.Given as goal

abbrev pub invariant-loop-k : goal.invariant-loop-k
invariant-loop-k l = (l.k ≤ steps_in l.steps.pair) × AreMomentsFrom l.steps l.marks l.last.items
    l.outputs l.k

abbrev pub decreases-loop-k : goal.decreases-loop-k
decreases-loop-k l = l.k
