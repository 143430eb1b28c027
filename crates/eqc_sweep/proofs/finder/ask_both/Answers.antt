use Rattle.eqc_sweep.proofs.FinderLemmas.{never_both, equal_by_two}
use Rattle.eqc_sweep.proofs.GateLemmas.{opposite_of}
use Rattle.eqc_sweep.proofs.finder.ask_both.Goals as goal

pub returns : goal.returns
returns c e =
    equal_by_two c.args.graph.now c.args.x c.args.y c.negated-not_x.result c.negated-not_y.result
    (opposite_of c.args.x c.negated-not_x.result c.negated-not_x.ensures.node
    c.negated-not_x.ensures.value)
    (opposite_of c.args.y c.negated-not_y.result c.negated-not_y.ensures.node
    c.negated-not_y.ensures.value)
    (never_both c.args.graph.now c.args.x c.negated-not_y.result (c.in_ok-first.ensures.answer
    c.in-Refuted.is))
    (never_both c.args.graph.now c.negated-not_x.result c.args.y (c.in_ok-answer.ensures.answer e))
