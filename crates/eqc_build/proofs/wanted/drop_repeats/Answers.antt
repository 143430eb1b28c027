use Rattle.std.proofs.Common.{◌<◌, arith, refl, subst, inl, inr}
use Rattle.std.specs.BinaryHeap.{heap_items, heap_len}
use Rattle.std.proofs.lemmas.Bool.{cases_lt}
use Rattle.eqc_build.specs.Schedule.{IsOpen}
use Rattle.eqc_build.proofs.WantedLaws.{drop_more, open_below_top, open_none, nothing_in}
use Rattle.eqc_build.proofs.wanted.drop_repeats.Goals as goal

pub returns-then-top-step-clause-below : goal.returns-then-top-step-clause-below
returns-then-top-step-clause-below c =
    λ x h. omega (
      arith,
      open_below_top (heap_items c.loop-top.heap) c.in-Some.top.now x
          (c.in-Some.ensures.greatest c.loop-top.invariant.0) h,
      c.if-top-step.true,
    )

pub loop-top-preserved : goal.loop-top-preserved
loop-top-preserved c =
    let some : 0 < heap_len c.loop-top.heap = c.in-Some.ensures.variant.0 refl in
    let more =
    drop_more (heap_items c.loop-top.heap) (heap_items c.pop.new.self) c.in-Some.top.now c.args.step
    c.pop.result
    (c.pop.ensures.variant.1 some) (omega (arith, some, c.loop-top.heap.data.ok.0))
    c.loop-top.invariant.0 c.in-Some.ensures.lookup
    (omega (arith, c.if-top-step.false)) c.pop.ensures.top c.pop.ensures.permutation
    c.pop.ensures.heap_order in (
      more.0,
      λ x h. c.loop-top.invariant.1 x (more.1 x h),
      λ x h. c.loop-top.invariant.2 x
          (more.1 x h),
      λ x low h. more.2 x low (c.loop-top.invariant.3 x low h),
    )

pub returns-clause-below : goal.returns-clause-below
returns-clause-below c = λ x h. elim (cases_lt 0 (heap_len c.loop-top.heap)) [
  | inl some ↦ absurd (let q = c.in_default.ensures.variant.1 some in cc)
  | inr none ↦ absurd (open_none x (subst (λ xs. IsOpen xs x)
      (nothing_in (heap_items c.loop-top.heap) (omega (arith, none, c.loop-top.heap.data.ok.0))) h))
]
