use Rattle.eqc_core.proofs.Stocks.{literals-push}
use Rattle.eqc_core.proofs.stock.literal_words.Goals as goal

pub loop-k-preserved : goal.loop-k-preserved
loop-k-preserved c = let e = literals-push c.loop-k.k in let i = c.in_ok-push.ensures.items in
    let v = c.loop-k.invariant in let f = c.pack_node.ensures in cc
