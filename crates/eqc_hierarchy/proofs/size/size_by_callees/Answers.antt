use Rattle.std.proofs.Common.{◌≡◌, ◌+◌, ◌∙◌, ℕ, List, None, length, take, get_or, ap, arith, subst}
use Rattle.std.proofs.lemmas.List.{take_all, get_or_default}
use Rattle.std.specs.List.{sum_by}
use Rattle.eqc_hierarchy.specs.Hierarchy.{callees}
use Rattle.eqc_hierarchy.specs.Sizes.{IsTold, model_size}
use Rattle.eqc_hierarchy.proofs.ReachingLaws.{callee_small}
use Rattle.eqc_hierarchy.proofs.SizeLaws.{names, told_more}
use Rattle.eqc_hierarchy.proofs.size.size_by_callees.Goals as goal

pub index-requires : goal.index-requires
index-requires c =
    let small = callee_small c.args.calls.now c.args.m c.callees-callee-items.result.now
    c.callees.callee-index c.callees-callee-items.ensures c.callees-test.true in
    omega (arith, small, c.requires.each, c.args.sizes.now.ok.0)

pub callees-preserved : goal.callees-preserved
callees-preserved c =
    let items = c.callees-callee-items.result.now in
    let read =
    c.index.ensures
    ∙ get_or_default c.args.sizes.now.items (get_or items c.callees.callee-index 0)
    c.index.result.now None
    (omega (
      arith,
      callee_small c.args.calls.now c.args.m items c.callees.callee-index
          c.callees-callee-items.ensures
          c.callees-test.true,
      c.requires.each,
    )) in
    told_more c.args.calls.now c.args.m c.callees.callee-index items c.args.sizes.now.items
    c.callees.size c.sum_and_one-size.result
    c.index.result.now c.callees-callee-items.ensures c.callees-test.true c.requires.known
    c.sum_and_one-size.ensures read
    c.callees.invariant

pub returns : goal.returns
returns c =
    let called = callees c.args.calls.now c.args.m in
    let whole : take c.callees.callee-index called ≡ called = take_all c.callees.callee-index called
    (omega (arith, c.callees-test.false, ap length c.callees-callee-items.ensures)) in
    let P : List ℕ → Type 0 = λ l. IsTold c.callees.size (names c.args.calls.now c.args.m
    + sum_by (λ x. model_size c.args.calls.now x + 1) l) in
    subst P whole c.callees.invariant
