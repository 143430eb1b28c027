use Rattle.std.proofs.Common.{◌∙◌, ap, arith}
use Rattle.eqc_xag.specs.Graph.{value_among}
use Rattle.eqc_witness.specs.Cones.{values_at}
use Rattle.eqc_witness.proofs.ValueLemmas.{values_more}
use Rattle.eqc_witness.proofs.cone.Cone.is_true.Goals as goal

pub loop-k-preserved : goal.loop-k-preserved
loop-k-preserved c =
    rw c.in_ok-push.ensures.items
    (values_more c.args.self.now.graph (values_at c.args.values.now) c.loop-k.known.items c.loop-k.k
    c.node.result c.node_value-value.result
    c.loop-k.invariant c.node.ensures.below (c.node.ensures.value (values_at c.args.values.now))
    (rw c.deref.ensures.value at c.node_value-value.ensures))

pub returns : goal.returns
returns c =
    c.value_among.ensures
    ∙ (ap (λ known. value_among known c.args.self.now.root) c.deref-2.ensures.value
    ∙ c.loop-k.invariant.each c.args.self.now.root (omega (
      arith,
      c.args.self.now.lawful.within,
      c.len-count.ensures.len,
    )))
