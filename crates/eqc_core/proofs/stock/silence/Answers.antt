use Rattle.eqc_core.proofs.Stocks.{repeated-push}
use Rattle.eqc_core.proofs.stock.silence.Goals as goal

pub loop-k-preserved : goal.loop-k-preserved
loop-k-preserved c = let e = repeated-push 0 c.loop-k._k in let i = c.in_ok-push.ensures.items in
    let v = c.loop-k.invariant in cc
