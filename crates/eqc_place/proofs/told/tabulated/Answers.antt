use Rattle.std.proofs.Common.{refl, ap, ◌+◌, ◌*◌}
use Rattle.eqc_place.proofs.ToldLaws.{indexing_more}
use Rattle.eqc_place.proofs.told.tabulated.Goals as goal

pub loop-c-preserved : goal.loop-c-preserved
loop-c-preserved c =
    indexing_more c.args.columns.now c.loop-c.c c.loop-c.index (2 * c.loop-c.index + c.from.result)
    _ c.requires c.loop-c-test.true c.loop-c.invariant refl (ap (λ n. 2 * c.loop-c.index + n)
    c.from.ensures)
