use Rattle.eqc_hierarchy.specs.Hierarchy.{callees}
use Rattle.eqc_hierarchy.proofs.ReachingLaws.{calls_closed}
use Rattle.eqc_hierarchy.proofs.ModelFaultLaws.{recursive_is}
use Rattle.eqc_hierarchy.proofs.model_faults.is_recursive.Goals as goal

pub visit-requires-clause-closed : goal.visit-requires-clause-closed
visit-requires-clause-closed c = calls_closed c.args.calls.now

pub visit-requires-clause-searching : goal.visit-requires-clause-searching
visit-requires-clause-searching c =
    rw c.nodes.ensures at (c.in_ok-search.ensures (callees c.args.calls.now))

pub returns : goal.returns
returns c =
    recursive_is c.args.calls.now c.args.top c.visit.new.self.stages.items
    c.visit.new.self.order.items c.in_ok-ends.ends
    c.in_ok-ends.ensures.searching c.in_ok-ends.ensures.placed c.in_ok-ends.ensures.cyclic
