use Rattle.std.proofs.Common.{◌∙◌, ℕ, List, Vec, Global, sym, ap, subst}
use Rattle.eqc_blif.specs.Netlist.{ModelOf}
use Rattle.eqc_hierarchy.specs.Codes.{is_recursive}
use Rattle.eqc_hierarchy.specs.Hierarchy.{callees}
use Rattle.eqc_hierarchy.specs.Walks.{WalksBack}
use Rattle.eqc_hierarchy.proofs.ReachingLaws.{calls_closed}
use Rattle.eqc_hierarchy.proofs.ModelFaultLaws.{recursive_is}
use Rattle.eqc_hierarchy.proofs.FaultLaws.{recursive, not_true}
use Rattle.eqc_hierarchy.proofs.calls.recursion.recursive_chain.Goals as goal

pub visit-requires-clause-closed : goal.visit-requires-clause-closed
visit-requires-clause-closed c = calls_closed c.in_ok-calls.calls

pub visit-requires-clause-searching : goal.visit-requires-clause-searching
visit-requires-clause-searching c =
    rw c.nodes.ensures at (c.in_ok-search.ensures (callees c.in_ok-calls.calls))

pub returns : goal.returns
returns c =
    let calls = c.in_ok-calls.calls in
    let circular =
    not_true c.in_ok-_ends._ends
    (recursive_is calls c.args.top c.visit.new.self.stages.items c.visit.new.self.order.items
    c.in_ok-_ends._ends
    c.in_ok-_ends.ensures.searching c.in_ok-_ends.ensures.placed c.in_ok-_ends.ensures.cyclic
    ∙ (ap (λ (l : List ModelOf). is_recursive l c.args.top) c.in_ok-calls.ensures
    ∙ recursive c.args.library.now c.args.top c.requires.refused)) in
    let P : List ModelOf → Type 0 = λ l. WalksBack (callees l) c.args.top c.into_trail.result.items
    in
    let Q : List ℕ → Type 0 = λ walk. WalksBack (callees calls) c.args.top walk in
    subst P c.in_ok-calls.ensures
    (subst Q (sym (ap (λ (v : Vec ℕ Global). v.items) c.into_trail.ensures))
    (c.in_ok-_ends.ensures.trail circular))
