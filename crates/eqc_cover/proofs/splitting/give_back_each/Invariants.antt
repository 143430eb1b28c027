use Rattle.std.proofs.Common.{length}
use Rattle.eqc_cover.specs.Splits.{AreOwned}
use Rattle.eqc_cover.proofs.SplitsLaws.{Leaves}
use Rattle.eqc_cover.proofs.splitting.give_back_each.Given as goal

abbrev pub invariant-loop-reference : goal.invariant-loop-reference
invariant-loop-reference g l =
    Leaves g.D.References.entry (g.D.References.holding l.fn.d) (g.D.References.holding l.d)
    l.fn.made.items l.made.items × AreOwned g.D.References.entry (g.D.References.holding l.d)
    l.made.items

abbrev pub decreases-loop-reference : goal.decreases-loop-reference
decreases-loop-reference g l = length l.made.items
