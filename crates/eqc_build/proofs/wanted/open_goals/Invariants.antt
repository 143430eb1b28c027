use Rattle.std.specs.Ordering.{nat_cmp}
use Rattle.std.specs.BinaryHeap.{heap_items, IsHeap}
use Rattle.eqc_build.specs.Schedule.{AreLasting, AreOpened}
use Rattle.eqc_build.proofs.wanted.open_goals.Given as goal

abbrev pub invariant-loop-k : goal.invariant-loop-k
invariant-loop-k g l =
    IsHeap nat_cmp (heap_items l.heap) × AreOpened l.table l.goals (heap_items l.initial.heap)
    (heap_items l.heap) l.k × AreLasting l.initial.until.items l.until.items l.goals l.k l.at
