use Rattle.std.specs.Ordering.{nat_cmp}
use Rattle.std.specs.BinaryHeap.{heap_items, IsHeap}
use Rattle.eqc_build.specs.Listed.{moment_in}
use Rattle.eqc_build.specs.Schedule.{AreNoted}
use Rattle.eqc_build.proofs.cone.note_goals.Given as goal

abbrev pub invariant-loop-k : goal.invariant-loop-k
invariant-loop-k l = IsHeap nat_cmp (heap_items l.heap)
    × AreNoted l.goals l.at (moment_in l.initial.last) (heap_items l.initial.heap)
    (moment_in l.last) (heap_items l.heap) l.k
