use Rattle.std.proofs.Common.{[], arith, refl, subst, length, ℕ}
use Rattle.eqc_hierarchy.specs.Searching.{IsSearch}
use Rattle.eqc_netlist.specs.Drivers.{signal_deps}
use Rattle.eqc_flat.proofs.OrderLaws.{search_order, small_order}
use Rattle.eqc_flat.proofs.signal_order.search_all.Goals as goal

pub loop-s-init : goal.loop-s-init
loop-s-init c = record {
  searching =
      let deps = signal_deps c.args.drivers.now in
      let P : ℕ → Type 0 = λ n. IsSearch deps n c.in_ok-search.search.stages.items []
      c.in_ok-search.search.order.items in
      subst P c.len.ensures (c.in_ok-search.ensures deps);
  placed = λ t h. absurd (omega arith);
}

pub returns-then-not-branch-clause-circle : goal.returns-then-not-branch-clause-circle
returns-then-not-branch-clause-circle c =
    λ _. (
      c.loop-s.s,
      omega (arith, c.loop-s-test.true, c.len-s-end.ensures),
      c.in_ok-visit.ensures.cyclic c.if-not-branch.true,
    )

pub returns-then-not-branch-clause-trail : goal.returns-then-not-branch-clause-trail
returns-then-not-branch-clause-trail c =
    λ _. (
      c.loop-s.s,
      omega (arith, c.loop-s-test.true, c.len-s-end.ensures),
      c.in_ok-visit.ensures.trail c.if-not-branch.true,
    )

pub returns-clause-order : goal.returns-clause-order
returns-clause-order c = λ _.
    search_order c.args.drivers.now (length c.args.drivers.now) c.loop-s.search.stages.items
    c.loop-s.search.order.items
    c.loop-s.invariant.searching refl
    (λ s inside. c.loop-s.invariant.placed s (omega (
      arith,
      inside,
      c.loop-s-test.false,
      c.len-s-end.ensures,
    )))

pub returns-clause-small : goal.returns-clause-small
returns-clause-small c = λ _.
    small_order (signal_deps c.args.drivers.now) (length c.args.drivers.now)
    c.loop-s.search.stages.items c.loop-s.search.order.items
    c.loop-s.invariant.searching c.requires.few
