use Rattle.std.specs.Ordering.{nat_cmp}
use Rattle.std.specs.BinaryHeap.{heap_items, IsHeap}
use Rattle.eqc_build.proofs.WantedLaws.{AreWantedFrom}
use Rattle.eqc_build.proofs.wanted.wanted.Given as goal

abbrev pub invariant-loop-step : goal.invariant-loop-step
invariant-loop-step g l = IsHeap nat_cmp (heap_items l.heap)
    × AreWantedFrom l.plan.steps l.plan.last l.table l.turn l.goals l.wanted.items
    (heap_items l.heap) l.below l.until.items

abbrev pub decreases-loop-step : goal.decreases-loop-step
decreases-loop-step g l = l.below
