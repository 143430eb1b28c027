use Rattle.std.proofs.Common.{arith, ◌+◌, ◌-◌, ◌<◌, ◌≡◌, ◌∙◌, get_or, subst}
use Rattle.std.proofs.lemmas.List.{get_or_default}
use Rattle.eqc_build.specs.Steps.{steps_in}
use Rattle.eqc_build.proofs.ScheduleLaws.{AreMomentsFrom, moments_skip, moments_raised}
use Rattle.eqc_build.proofs.ScheduleLaws.{moments_done}
use Rattle.eqc_build.proofs.StepLaws.{uses_within}
use Rattle.eqc_build.proofs.schedule.last_moments.Goals as goal

pub overflow_add-at-then-at-gt0 : goal.overflow_add-at-then-at-gt0
overflow_add-at-then-at-gt0 c =
    let small : c.loop-k.k - 1 + 1 < 4294967296 = omega (
      arith,
      c.len-k.ensures.count,
      c.len-k.ensures.few,
      c.loop-k.invariant.0,
    ) in
    omega (arith, c.start_of.ensures.whole (c.loop-k.k - 1 + 1) small)

pub raise-requires : goal.raise-requires
raise-requires c =
    let g = c.args.steps.now in
    let k = c.loop-k.k - 1 in
    let inside : k < steps_in g.pair = omega (arith, c.loop-k.invariant.0) in
    rw c.uses.ensures (λ i lt. omega (
      arith,
      uses_within g k i c.len-k.ensures.lawful inside lt,
      c.loop-k.invariant.1.ended.size,
    ))

pub loop-k-preserved-then-at-gt0 : goal.loop-k-preserved-then-at-gt0
loop-k-preserved-then-at-gt0 c =
    let g = c.args.steps.now in
    let k = c.loop-k.k - 1 in
    let same : c.loop-k.k ≡ k + 1 = omega arith in
    let inside : k < steps_in g.pair = omega (arith, c.loop-k.invariant.0) in
    let from : AreMomentsFrom g c.args.marks.now c.loop-k.last.items c.args.outputs (k + 1) =
    subst (AreMomentsFrom g c.args.marks.now c.loop-k.last.items c.args.outputs) same
    c.loop-k.invariant.1 in
    let read : c.index-at.result.now ≡ get_or c.loop-k.last.items k 0 = c.index-at.ensures
    ∙ get_or_default c.loop-k.last.items k c.index-at.result.now 0 (omega (
      arith,
      inside,
      from.ended.size,
    )) in (
      omega (arith, c.loop-k.invariant.0),
      moments_raised g c.args.marks.now c.loop-k.last.items c.raise.new.last.items c.args.outputs k
          c.start_of.result c.len-k.ensures.lawful
          inside (λ output late. c.start_of.ensures.start output (omega (arith, late, read))) from
          (rw c.uses.ensures at c.raise.ensures),
    )

pub loop-k-preserved : goal.loop-k-preserved
loop-k-preserved c =
    let g = c.args.steps.now in
    let k = c.loop-k.k - 1 in
    let same : c.loop-k.k ≡ k + 1 = omega arith in
    let inside : k < steps_in g.pair = omega (arith, c.loop-k.invariant.0) in
    let from : AreMomentsFrom g c.args.marks.now c.loop-k.last.items c.args.outputs (k + 1) =
    subst (AreMomentsFrom g c.args.marks.now c.loop-k.last.items c.args.outputs) same
    c.loop-k.invariant.1 in
    let read : c.index-at.result.now ≡ get_or c.loop-k.last.items k 0 = c.index-at.ensures
    ∙ get_or_default c.loop-k.last.items k c.index-at.result.now 0 (omega (
      arith,
      inside,
      from.ended.size,
    )) in (
      omega (arith, c.loop-k.invariant.0),
      moments_skip g c.args.marks.now c.loop-k.last.items
          c.args.outputs k (omega (arith, read, c.if-at-gt0.false)) from,
    )

pub returns-clause-last : goal.returns-clause-last
returns-clause-last c =
    let at_end : c.loop-k.k ≡ 0 = omega (arith, c.loop-k-test.false) in
    moments_done c.args.steps.now c.args.marks.now c.loop-k.last.items c.args.outputs
    (subst (AreMomentsFrom c.args.steps.now c.args.marks.now c.loop-k.last.items c.args.outputs)
    at_end c.loop-k.invariant.1)
