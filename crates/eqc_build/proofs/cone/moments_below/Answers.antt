use Rattle.std.proofs.Common.{◌+◌, ◌≡◌, arith, ap, ◌∙◌, nat_eq}
use Rattle.std.specs.BinaryHeap.{heap_items}
use Rattle.std.specs.Map.{lookup}
use Rattle.std.specs.Option.{unwrap_or}
use Rattle.eqc_build.specs.Listed.{moment_in}
use Rattle.eqc_build.specs.Schedule.{moment, end_of}
use Rattle.eqc_build.proofs.WantedLaws.{open_below_top, open_top, nothing_in}
use Rattle.eqc_build.proofs.ConeLaws.{noted_start, noted_step, noted_done, noted_roots}
use Rattle.eqc_build.proofs.cone.moments_below.Goals as goal

pub drop_repeats-requires-clause-below : goal.drop_repeats-requires-clause-below
drop_repeats-requires-clause-below c = λ x h. open_below_top (heap_items c.pop.new.self)
    c.in-Some.step x (c.in-Some.ensures.below_top c.loop-step.invariant.0) h

pub loop-step-smaller : goal.loop-step-smaller
loop-step-smaller c = c.loop-step.invariant.1.open_below c.in-Some.step
    (open_top (heap_items c.loop-step.heap) (heap_items c.pop.new.self) c.in-Some.step
    c.in-Some.ensures.permutation)

pub loop-step-init : goal.loop-step-init
loop-step-init c =
    let s = c.args.steps.now in
    let end : c.moment-end.result ≡ end_of s 1 = c.moment-end.ensures
    ∙ ap (λ n. moment 1 (n + 1)) c.len.ensures.count in (
      c.in_ok-note_goals.ensures.heap,
      rw c.len-below.ensures.count
          (noted_start s c.args.goals.now (heap_items c.new-heap.result)
          (moment_in c.new-last.result) (moment_in c.note_goals.new.last)
          (heap_items c.note_goals.new.heap) c.new-heap.ensures.items
          (λ q. ap (λ es. unwrap_or (lookup (nat_eq q) es) 0) c.new-last.ensures.empty)
          c.requires.within.each
          (rw end at c.in_ok-note_goals.ensures.noted)),
    )

pub loop-step-preserved : goal.loop-step-preserved
loop-step-preserved c =
    let noted = rw (c.uses.ensures, c.moment.ensures) at c.in_ok-note_all.ensures.noted in (
      c.in_ok-note_all.ensures.heap,
      noted_step c.args.steps.now c.args.goals.now (moment_in c.loop-step.last)
          (moment_in c.note_all.new.last) (heap_items c.loop-step.heap)
          (heap_items c.pop.new.self) (heap_items c.drop_repeats.new.heap)
          (heap_items c.note_all.new.heap) c.loop-step.below c.in-Some.step
          c.len-below.ensures.lawful c.in-Some.ensures.permutation
          (λ x h. open_below_top (heap_items c.pop.new.self) c.in-Some.step x
          (c.in-Some.ensures.below_top c.loop-step.invariant.0) h)
          c.drop_repeats.ensures.below c.drop_repeats.ensures.others noted c.loop-step.invariant.1,
    )

pub uses-requires : goal.uses-requires
uses-requires c =
    omega (
      arith,
      c.loop-step.invariant.1.small,
      c.loop-step.invariant.1.open_below c.in-Some.step (open_top (heap_items c.loop-step.heap)
          (heap_items c.pop.new.self) c.in-Some.step c.in-Some.ensures.permutation),
    )

pub overflow_add-step : goal.overflow_add-step
overflow_add-step c =
    omega (
      arith,
      c.len-below.ensures.count,
      c.len-below.ensures.few,
      c.loop-step.invariant.1.small,
      c.loop-step.invariant.1.open_below c.in-Some.step (open_top (heap_items c.loop-step.heap)
          (heap_items c.pop.new.self) c.in-Some.step c.in-Some.ensures.permutation),
    )

pub returns-clause-last : goal.returns-clause-last
returns-clause-last c =
    rw (c.of_few.ensures, c.len-2.ensures.count)
    (noted_done c.args.steps.now c.args.goals.now (moment_in c.loop-step.last)
    (heap_items c.loop-step.heap) c.loop-step.below
    c.len-below.ensures.lawful
    (nothing_in (heap_items c.loop-step.heap) (omega (
      arith,
      c.in_default.ensures.none,
      c.loop-step.heap.data.ok.0,
    ))) c.loop-step.invariant.1)

pub returns-clause-roots : goal.returns-clause-roots
returns-clause-roots c =
    rw (c.of_few.ensures, c.len-2.ensures.count)
    (noted_roots c.args.steps.now c.args.goals.now (moment_in c.loop-step.last)
    (heap_items c.loop-step.heap) c.loop-step.below
    c.len-below.ensures.lawful
    (nothing_in (heap_items c.loop-step.heap) (omega (
      arith,
      c.in_default.ensures.none,
      c.loop-step.heap.data.ok.0,
    ))) c.loop-step.invariant.1
    c.requires.within.each)
