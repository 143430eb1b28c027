use Rattle.std.proofs.Common.{◌+◌}
use Rattle.eqc_hierarchy.specs.Searching.{IsVisit}
use Rattle.eqc_hierarchy.proofs.SearchLaws.{fresh_work, path_work}
use Rattle.eqc_hierarchy.proofs.search.Search.visit.Given as goal

abbrev pub invariant-path : goal.invariant-path
invariant-path g l = IsVisit (g.G.Graph.deps l.fn.graph) (g.G.Graph.size l.fn.graph) l.fn.root
    l.fn.self.order.items l.self.stages.items l.path.items l.self.order.items

abbrev pub decreases-path : goal.decreases-path
decreases-path g l = fresh_work (g.G.Graph.deps l.fn.graph) l.self.stages.items
    (g.G.Graph.size l.fn.graph) + path_work (g.G.Graph.deps l.fn.graph) l.path.items
