use Rattle.std.proofs.Common.{◌+◌, ◌<◌, ◌≡◌, ◌∙◌, ap, arith}
use Rattle.std.specs.BinaryHeap.{heap_items}
use Rattle.eqc_build.specs.Steps.{steps_in}
use Rattle.eqc_build.specs.Schedule.{moment, end_of}
use Rattle.eqc_build.proofs.StepLaws.{uses_within}
use Rattle.eqc_build.proofs.WantedLaws.{wanted_first, wanted_more, wanted_done, wanted_roots}
use Rattle.eqc_build.proofs.WantedLaws.{open_below_top, open_top, nothing_in}
use Rattle.eqc_build.proofs.wanted.wanted.Goals as goal

pub drop_repeats-requires-clause-below : goal.drop_repeats-requires-clause-below
drop_repeats-requires-clause-below g c = λ x h. open_below_top (heap_items c.pop.new.self)
    c.in-Some.step x (c.in-Some.ensures.below_top c.loop-step.invariant.0) h

pub loop-step-smaller : goal.loop-step-smaller
loop-step-smaller g c = c.loop-step.invariant.1.open_below c.in-Some.step
    (open_top (heap_items c.loop-step.heap) (heap_items c.pop.new.self) c.in-Some.step
    c.in-Some.ensures.permutation)

pub returns-clause-wanted : goal.returns-clause-wanted
returns-clause-wanted g c =
    wanted_done c.args.plan.now.steps c.args.plan.now.last c.args.table.now c.args.turn _
    c.loop-step.wanted.items (heap_items c.loop-step.heap)
    c.loop-step.below c.loop-step.until.items
    (nothing_in (heap_items c.loop-step.heap) (omega (
      arith,
      c.in_default.ensures.none,
      c.loop-step.heap.data.ok.0,
    ))) c.loop-step.invariant.1

pub returns-clause-roots : goal.returns-clause-roots
returns-clause-roots g c =
    wanted_roots c.args.plan.now.steps c.args.plan.now.last c.args.table.now c.args.turn _
    c.loop-step.wanted.items (heap_items c.loop-step.heap)
    c.loop-step.below c.loop-step.until.items
    (nothing_in (heap_items c.loop-step.heap) (omega (
      arith,
      c.in_default.ensures.none,
      c.loop-step.heap.data.ok.0,
    ))) c.loop-step.invariant.1

pub open_goals-requires-clause-table : goal.open_goals-requires-clause-table
open_goals-requires-clause-table g c = λ k lt. omega (
  arith,
  c.requires.turn.within.each k lt,
  c.requires.table,
)

pub loop-step-init : goal.loop-step-init
loop-step-init g c =
    let s = c.args.plan.now.steps in
    let end : c.moment-end.result ≡ end_of s c.args.turn = c.moment-end.ensures
    ∙ ap (λ n. moment c.args.turn (n + 1)) c.len.ensures.count in (
      c.in_ok-open_goals.ensures.heap,
      rw (c.new-wanted.ensures.items, c.len-below.ensures.count)
          (wanted_first s c.args.plan.now.last c.args.table.now c.args.turn c.args.goals.now
          (heap_items c.new-heap.result)
          (heap_items c.open_goals.new.heap) c.args.until.now.items c.open_goals.new.until.items
          c.new-heap.ensures.items
          c.requires.turn.within.each c.requires.turn.ends c.in_ok-open_goals.ensures.opened
          (rw end at c.in_ok-open_goals.ensures.noted)),
    )

pub loop-step-preserved : goal.loop-step-preserved
loop-step-preserved g c = (
  c.in_ok-open_missing.ensures.heap,
  rw c.in_ok-push.ensures.items
      (wanted_more c.args.plan.now.steps c.args.plan.now.last c.args.table.now c.args.turn
      c.args.goals.now c.loop-step.wanted.items
      (heap_items c.loop-step.heap) (heap_items c.pop.new.self) (heap_items c.drop_repeats.new.heap)
      (heap_items c.open_missing.new.heap)
      c.loop-step.below c.in-Some.step c.loop-step.until.items c.open_missing.new.until.items
      c.len-below.ensures.lawful
      c.requires.turn.moments c.requires.turn.some c.in-Some.ensures.permutation
      c.drop_repeats.ensures.below c.drop_repeats.ensures.kept
      c.drop_repeats.ensures.others
      (λ x h. open_below_top (heap_items c.pop.new.self) c.in-Some.step x
      (c.in-Some.ensures.below_top c.loop-step.invariant.0) h)
      (rw c.uses.ensures at c.in_ok-open_missing.ensures.opened)
      (rw (c.uses.ensures, c.moment-at.ensures) at c.in_ok-open_missing.ensures.noted)
      c.loop-step.invariant.1),
)

pub overflow_add-step : goal.overflow_add-step
overflow_add-step g c =
    omega (
      arith,
      c.len-below.ensures.count,
      c.len-below.ensures.few,
      c.loop-step.invariant.1.small,
      c.loop-step.invariant.1.open_below c.in-Some.step (open_top (heap_items c.loop-step.heap)
          (heap_items c.pop.new.self) c.in-Some.step c.in-Some.ensures.permutation),
    )

pub uses-requires : goal.uses-requires
uses-requires g c =
    omega (
      arith,
      c.loop-step.invariant.1.small,
      c.loop-step.invariant.1.open_below c.in-Some.step (open_top (heap_items c.loop-step.heap)
          (heap_items c.pop.new.self) c.in-Some.step c.in-Some.ensures.permutation),
    )

pub open_missing-requires-clause-table : goal.open_missing-requires-clause-table
open_missing-requires-clause-table g c =
    let s = c.args.plan.now.steps in
    let inside : c.in-Some.step < steps_in s.pair =
    omega (
      arith,
      c.loop-step.invariant.1.small,
      c.loop-step.invariant.1.open_below c.in-Some.step (open_top (heap_items c.loop-step.heap)
          (heap_items c.pop.new.self) c.in-Some.step c.in-Some.ensures.permutation),
    ) in
    rw c.uses.ensures (λ k lt. omega (
      arith,
      uses_within s c.in-Some.step k
          c.len-below.ensures.lawful inside lt,
      c.requires.table,
    ))
