use Rattle.std.proofs.Common.{◌∙◌, ◌<◌, ◌+◌, ◌++◌, ◌∷◌, [], List, ℕ, Bool, true, false, refl, ap}
use Rattle.std.proofs.Common.{arith, length, get_or, set, take}
use Rattle.std.proofs.lemmas.List.{take_all, length-replicate}
use Rattle.eqc_hierarchy.proofs.ReachingLaws as laws
use Rattle.eqc_hierarchy.proofs.calls.reach.list_reached.Goals as goal

pub index_mut-requires : goal.index_mut-requires
index_mut-requires c = omega (
  arith,
  ap length c.requires.unseen,
  length-replicate (length c.args.calls.now + 1) false,
  c.args.seen.now.ok.0,
  c.requires.top,
)

pub models-init : goal.models-init
models-init c =
    laws.reach_start c.args.calls.now c.args.top (length c.args.calls.now + 1)
    (set c.args.seen.now.items c.args.top true) c.push.new.self.items
    (omega (arith, c.requires.top))
    (ap (λ (l : List Bool). set l c.args.top true) c.requires.unseen)
    (c.in_ok-push.ensures.items ∙ ap (λ (l : List ℕ). l ++ c.args.top ∷ []) c.requires.empty)

pub callees-callee-items-requires : goal.callees-callee-items-requires
callees-callee-items-requires c =
    let inside : c.models.k < length c.models.all.items = omega (arith, c.models.all.ok.0) in
    let small =
    laws.reach_at c.args.calls.now c.args.top (length c.args.calls.now + 1) c.models.seen.items
    c.models.all.items c.models.k
    c.index-m.result.now
    (laws.adding_begin c.args.calls.now c.args.top (length c.args.calls.now + 1) c.models.seen.items
    c.models.all.items c.models.k
    c.index-m.result.now c.models.invariant inside c.index-m.ensures) in
    omega (arith, small)

pub callees-init : goal.callees-init
callees-init c =
    let inside : c.models.k < length c.models.all.items = omega (arith, c.models.all.ok.0) in
    laws.adding_begin c.args.calls.now c.args.top (length c.args.calls.now + 1) c.models.seen.items
    c.models.all.items c.models.k c.index-m.result.now c.models.invariant inside
    c.index-m.ensures

pub index-requires : goal.index-requires
index-requires c =
    let small = laws.callee_small c.args.calls.now c.index-m.result.now
    c.callees-callee-items.result.now c.callees.callee-index c.callees-callee-items.ensures
    c.callees-test.true in
    omega (arith, small, c.callees.invariant.reaching.size, c.callees.seen.ok.0)

pub callees-preserved-then-index : goal.callees-preserved-then-index
callees-preserved-then-index c =
    laws.adding_skip_at c.args.calls.now c.args.top c.callees.seen.items c.callees.all.items
    c.models.k c.index-m.result.now
    c.callees-callee-items.result.now c.callees.callee-index c.index.result.now c.callees.invariant
    c.callees-callee-items.ensures
    c.callees-test.true c.index.ensures c.if-index.true

pub index_mut-requires-in-callees : goal.index_mut-requires-in-callees
index_mut-requires-in-callees c =
    let small = laws.callee_small c.args.calls.now c.index-m.result.now
    c.callees-callee-items.result.now c.callees.callee-index c.callees-callee-items.ensures
    c.callees-test.true in
    omega (arith, small, c.callees.invariant.reaching.size, c.callees.seen.ok.0)

pub callees-preserved : goal.callees-preserved
callees-preserved c =
    laws.adding_more_at c.args.calls.now c.args.top c.callees.seen.items
    (set c.callees.seen.items (get_or c.callees-callee-items.result.now c.callees.callee-index 0)
    true) c.callees.all.items
    c.push-in-callees.new.self.items c.models.k c.index-m.result.now
    c.callees-callee-items.result.now c.callees.callee-index
    c.index.result.now c.callees.invariant c.callees-callee-items.ensures c.callees-test.true
    c.index.ensures c.if-index.false refl
    c.in_ok-push-2.ensures.items

pub models-preserved : goal.models-preserved
models-preserved c =
    laws.adding_done c.args.calls.now c.args.top (length c.args.calls.now + 1) c.callees.seen.items
    c.callees.all.items c.models.k
    c.index-m.result.now (take c.callees.callee-index c.callees-callee-items.result.now)
    c.callees.invariant
    (take_all c.callees.callee-index c.callees-callee-items.result.now (omega arith)
    ∙ c.callees-callee-items.ensures)

pub returns : goal.returns
returns c = (c.models.k, omega (arith, c.models.all.ok.0), c.models.invariant)
