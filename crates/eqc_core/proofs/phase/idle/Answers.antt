use Rattle.eqc_core.proofs.Phases.{idle-push}
use Rattle.eqc_core.proofs.phase.idle.Goals as goal

pub loop-k-preserved : goal.loop-k-preserved
loop-k-preserved c = let e = idle-push c.loop-k._k in let i = c.in_ok-push.ensures.items in let v =
    c.loop-k.invariant in cc
