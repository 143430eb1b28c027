use Rattle.std.proofs.Common.{eqb-true, sym}
use Rattle.eqc_sweep.proofs.GateLemmas.{not_both_gate, differ_gate}
use Rattle.eqc_sweep.proofs.rules.gate.gate_of.Goals as goal

pub returns-then-complement : goal.returns-then-complement
returns-then-complement c =
    not_both_gate c.args.graph.now c.args.x c.node_of.result c.in-And.p c.in-And.q c.node_of.ensures
    c.requires
    (eqb-true _ _ (sym c.if-complement.ensures)) c.in-And.ensures.below c.in-And.ensures.value

pub returns-in-Xor : goal.returns-in-Xor
returns-in-Xor c =
    differ_gate c.args.graph.now c.args.x c.node_of.result c.in-Xor.p c.in-Xor.q c.negated_if.result
    c.is_negated-complement.result
    c.node_of.ensures c.requires c.is_negated-complement.ensures c.in-Xor.ensures.below
    c.in-Xor.ensures.value c.negated_if.ensures.node
    c.negated_if.ensures.value
