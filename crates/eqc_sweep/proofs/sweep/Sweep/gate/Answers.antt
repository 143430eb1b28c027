use Rattle.std.proofs.Common.{List, length, subst}
use Rattle.eqc_xag.specs.declared.node.Node.{Node}
use Rattle.eqc_xag.specs.Graph.{IsBelow}
use Rattle.eqc_sweep.proofs.sweep.Sweep.gate.Goals as goal

pub enter-requires : goal.enter-requires
enter-requires c =
    subst (λ (nodes : List Node). IsBelow (length nodes) c.ordered-form.result.0) c.self.view_is
    (c.ordered-form.ensures.below (length c.self.inside.graph) c.in-Absent.ensures.within)
