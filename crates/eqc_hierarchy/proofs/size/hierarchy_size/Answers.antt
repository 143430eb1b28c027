use Rattle.std.proofs.Common.{◌≡◌, ◌<◌, ◌∙◌, ℕ, List, Vec, Global, None, length, true, sym, ap}
use Rattle.std.proofs.Common.{arith, subst}
use Rattle.std.proofs.lemmas.List.{get_or_default}
use Rattle.eqc_blif.specs.Netlist.{ModelOf}
use Rattle.eqc_hierarchy.specs.Codes.{is_recursive}
use Rattle.eqc_netlist.specs.Dependency.{among}
use Rattle.eqc_hierarchy.specs.Hierarchy.{callees}
use Rattle.eqc_hierarchy.specs.Sizes.{IsTold, model_size, IsCallOrder}
use Rattle.eqc_hierarchy.proofs.ReachingLaws.{calls_closed}
use Rattle.eqc_hierarchy.proofs.SizeLaws.{call_order, size_counted}
use Rattle.eqc_hierarchy.proofs.size.hierarchy_size.Goals as goal

pub visit-requires-clause-closed : goal.visit-requires-clause-closed
visit-requires-clause-closed c = calls_closed c.in_ok-calls.calls

pub visit-requires-clause-searching : goal.visit-requires-clause-searching
visit-requires-clause-searching c =
    rw c.nodes.ensures at (c.in_ok-search.ensures (callees c.in_ok-calls.calls))

pub sizes_of-requires-clause-ordered : goal.sizes_of-requires-clause-ordered
sizes_of-requires-clause-ordered c =
    let calls = c.in_ok-calls.calls in
    let P : List ℕ → Type 0 = λ l. IsCallOrder calls l in
    let e = ap (λ (l : List ModelOf). is_recursive l c.args.top) c.in_ok-calls.ensures
    ∙ c.requires.ends in
    subst P (sym (c.deref.ensures.value
    ∙ ap (λ (v : Vec ℕ Global). v.items) c.into_order-order.ensures))
    (call_order calls c.args.top c.visit.new.self.stages.items c.visit.new.self.order.items
    c.in_ok-_ends._ends
    c.in_ok-_ends.ensures.searching c.in_ok-_ends.ensures.placed c.in_ok-_ends.ensures.cyclic e).0

pub index-requires : goal.index-requires
index-requires c = omega (
  arith,
  c.requires.there,
  ap length c.in_ok-calls.ensures,
  c.in_ok-sizes.ensures.each,
  c.in_ok-sizes.sizes.ok.0,
)

pub returns : goal.returns
returns c =
    let calls = c.in_ok-calls.calls in
    let e = ap (λ (l : List ModelOf). is_recursive l c.args.top) c.in_ok-calls.ensures
    ∙ c.requires.ends in
    let P : List ℕ → Type 0 = λ l. among l c.args.top ≡ true in
    let placed =
    subst P (sym (c.deref.ensures.value
    ∙ ap (λ (v : Vec ℕ Global). v.items) c.into_order-order.ensures))
    (call_order calls c.args.top c.visit.new.self.stages.items c.visit.new.self.order.items
    c.in_ok-_ends._ends
    c.in_ok-_ends.ensures.searching c.in_ok-_ends.ensures.placed c.in_ok-_ends.ensures.cyclic e).1
    in
    let told = c.in_ok-sizes.ensures.told c.args.top placed in
    let sized = ap (λ (l : List ModelOf). model_size l c.args.top) c.in_ok-calls.ensures
    ∙ sym (size_counted c.args.library.now c.args.top) in
    let room : c.args.top < length c.in_ok-sizes.sizes.items =
    omega (arith, c.requires.there, ap length c.in_ok-calls.ensures, c.in_ok-sizes.ensures.each)
    in
    let read = c.index.ensures ∙ get_or_default c.in_ok-sizes.sizes.items c.args.top
    c.index.result.now None room in
    subst (IsTold c.index.result.now) sized (rw (sym read) at told)
