use Rattle.std.proofs.Common.{None}
use Rattle.std.proofs.lemmas.List.{replicate_more}
use Rattle.eqc_parallel.proofs.verdict.places.Goals as goal

pub loop-preserved : goal.loop-preserved
loop-preserved c = rw (c.in_ok-push.ensures.items, c.loop.invariant) (replicate_more c.loop.counter
    None)
