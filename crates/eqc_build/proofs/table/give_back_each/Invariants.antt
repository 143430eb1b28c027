use Rattle.std.proofs.Common.{length}
use Rattle.eqc_build.specs.Building.{Moves, OwnsTable}
use Rattle.eqc_build.proofs.table.give_back_each.Given as goal

abbrev pub invariant-loop-entry : goal.invariant-loop-entry
invariant-loop-entry g l =
    Moves g.D.References.entry (g.D.References.holding l.fn.d) l.fn.table.items
    (g.D.References.holding l.d) l.table.items
    × OwnsTable g.D.References.entry (g.D.References.holding l.d) l.table.items

abbrev pub decreases-loop-entry : goal.decreases-loop-entry
decreases-loop-entry g l = length l.table.items
