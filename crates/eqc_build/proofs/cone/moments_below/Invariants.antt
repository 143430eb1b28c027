use Rattle.std.specs.Ordering.{nat_cmp}
use Rattle.std.specs.BinaryHeap.{heap_items, IsHeap}
use Rattle.eqc_build.specs.Listed.{moment_in}
use Rattle.eqc_build.proofs.ConeLaws.{IsNotedFrom}
use Rattle.eqc_build.proofs.cone.moments_below.Given as goal

abbrev pub invariant-loop-step : goal.invariant-loop-step
invariant-loop-step l = IsHeap nat_cmp (heap_items l.heap)
    × IsNotedFrom l.steps l.goals (moment_in l.last) (heap_items l.heap) l.below

abbrev pub decreases-loop-step : goal.decreases-loop-step
decreases-loop-step l = l.below
