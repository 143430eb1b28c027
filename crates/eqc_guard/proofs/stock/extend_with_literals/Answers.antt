use Rattle.std.proofs.Common.{◌∷◌, ◌++◌, [], ◌∙◌}
use Rattle.eqc_guard.proofs.Stocking.{one_literal}
use Rattle.eqc_guard.proofs.stock.extend_with_literals.Goals as goal

pub loop-k-preserved : goal.loop-k-preserved
loop-k-preserved c = c.in_ok-push.ensures.items
    ∙ ((λ i. c.loop-k.invariant i ++ c.pack_node.ensures i ∷ [])
    ∙ one_literal c.args.words.now.items c.loop-k.k)
