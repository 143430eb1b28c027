use Rattle.eqc_xag.proofs.GraphLemmas.{value_of_read}
use Rattle.eqc_xag.proofs.graph.Graph.node.Goals as goal

pub returns-clause-value : goal.returns-clause-value
returns-clause-value c =
    value_of_read c.self.inside.nodes.items c.args.self.now c.args.k c.index.result.now
    c.self.view_is c.self.invariant c.requires c.index.ensures
