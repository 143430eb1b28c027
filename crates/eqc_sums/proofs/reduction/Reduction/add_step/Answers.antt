use Rattle.std.proofs.Common.{ap, length, ◌∙◌, List}
use Rattle.eqc_xag.specs.declared.node.Node.{Node}
use Rattle.eqc_sums.proofs.KeepLemmas.{keeps_stepped}
use Rattle.eqc_sums.proofs.reduction.Reduction.add_step.Goals as goal

pub returns : goal.returns
returns c =
    keeps_stepped c.args.self.now.sweep c.len.result c.args.self.now.form c.reach.new.self
    c.add_all.new.self c.args.terms.now
    (c.len.ensures.len ∙ ap (λ (nodes : List Node). length nodes) c.graph.ensures) c.requires
    c.in_ok-reach.ensures.most c.in_ok-reach.ensures.value c.add_all.ensures.length
    c.add_all.ensures.value
