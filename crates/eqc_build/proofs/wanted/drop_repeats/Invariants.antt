use Rattle.std.proofs.Common.{◌≤◌, ◌<◌, ℕ}
use Rattle.std.specs.Ordering.{nat_cmp}
use Rattle.std.specs.BinaryHeap.{heap_items, heap_len, IsHeap}
use Rattle.eqc_build.specs.Schedule.{IsOpen}
use Rattle.eqc_build.proofs.wanted.drop_repeats.Given as goal

abbrev pub invariant-loop-top : goal.invariant-loop-top
invariant-loop-top l =
    IsHeap nat_cmp
    (heap_items l.heap) × ((x : ℕ) → IsOpen (heap_items l.heap) x → x ≤ l.step)
    × ((x : ℕ) → IsOpen (heap_items l.heap) x →
    IsOpen (heap_items l.initial.heap) x) × ((x : ℕ) → x < l.step
    → IsOpen (heap_items l.initial.heap) x → IsOpen (heap_items l.heap) x)

abbrev pub decreases-loop-top : goal.decreases-loop-top
decreases-loop-top l = heap_len l.heap
