use Rattle.std.proofs.Common.{◌≡◌}
use Rattle.std.specs.BinaryHeap.{heap_len}
use Rattle.eqc_build.specs.Building.{Moves, KeepsLater}
use Rattle.eqc_build.proofs.step_diagrams.StepDiagrams.release_due.Given as goal

abbrev pub invariant-loop-next : goal.invariant-loop-next
invariant-loop-next g l =
    Moves g.D.References.entry (g.D.References.holding l.fn.d) l.fn.self.table
    (g.D.References.holding l.d) l.self.table × KeepsLater l.plan
    l.fn.self.used.items l.fn.self.table l.self.table l.at
    × (l.self.used.items ≡ l.fn.self.used.items)

abbrev pub decreases-loop-next : goal.decreases-loop-next
decreases-loop-next g l = heap_len l.self.due
