use Rattle.eqc_core.proofs.Stocks.{slots-push}
use Rattle.eqc_core.proofs.stock.first_slots.Goals as goal

pub loop-k-preserved : goal.loop-k-preserved
loop-k-preserved c = let e = slots-push c.loop-k.k in let i = c.in_ok-push.ensures.items in let v =
    c.loop-k.invariant in cc
