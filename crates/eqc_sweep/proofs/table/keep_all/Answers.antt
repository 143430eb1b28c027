use Rattle.eqc_sweep.proofs.table.keep_all.Goals as goal

pub loop-known-preserved : goal.loop-known-preserved
loop-known-preserved c nodes known others =
    c.keep.ensures nodes (c.loop-known.invariant nodes known others)
    (others.each c.loop-known.known-index _ c.loop-known-test.true)
