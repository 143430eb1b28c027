use Rattle.std.proofs.Common.{ℕ, ◌<◌, length, IsSome, nat_eq}
use Rattle.indexmap.specs.IndexMap.{get}
use Rattle.eqc_build.specs.Building.{Moves, OwnsTable}
use Rattle.eqc_build.specs.Listed.{listed}
use Rattle.eqc_build.proofs.table.give_back_few.Given as goal

abbrev pub invariant-loop-reference : goal.invariant-loop-reference
invariant-loop-reference g l =
    Moves g.D.References.entry (g.D.References.holding l.fn.d)
    (listed l.count (get nat_eq l.fn.table)) (g.D.References.holding l.d)
    (listed l.count (get nat_eq l.table))
    × OwnsTable g.D.References.entry (g.D.References.holding l.d)
    (listed l.count (get nat_eq l.table))
    × ((s : ℕ) → IsSome (get nat_eq l.table s) → s < l.count)

abbrev pub decreases-loop-reference : goal.decreases-loop-reference
decreases-loop-reference g l = length l.table.entries
