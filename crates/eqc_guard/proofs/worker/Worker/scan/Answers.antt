use Rattle.std.proofs.Common.{◌+◌, ◌-◌, ◌%◌, ◌^◌, ◌<◌, [], ◌∷◌, drop, slice_index_or, sym, subst}
use Rattle.std.proofs.Common.{arith, inr}
use Rattle.std.proofs.lemmas.List.{drop_more, drop_all}
use Rattle.eqc_core.specs.Words.{times}
use Rattle.eqc_guard.specs.Known.{IsKnown}
use Rattle.eqc_guard.specs.Standing.{Standing}
use Rattle.eqc_guard.specs.Sweeping.{IsSwept, IsLetting}
use Rattle.eqc_guard.proofs.Copying.{count_keeps, below}
use Rattle.eqc_guard.proofs.Sweeping.{lets_all, lets_one, let_there, let_ready, let_held, scans}
use Rattle.eqc_guard.proofs.worker.Worker.scan.Goals as goal

pub loop-x-init : goal.loop-x-init
loop-x-init c = lets_all c.as_slice-x-items.result.now c.sweep-gone.new.self
    c.sweep-gone.ensures.known

next : (c : goal.After-row_known-1) →
    IsLetting c.as_slice-x-items.result.now
    (slice_index_or c.as_slice-x-items.result.now c.loop-x.x-index 0 ∷ drop (c.loop-x.x-index + 1)
    c.as_slice-x-items.result.now)
    c.sweep-gone.new.self c.loop-x.self
next c = subst (λ l. IsLetting c.as_slice-x-items.result.now l c.sweep-gone.new.self c.loop-x.self)
    (drop_more c.as_slice-x-items.result.now c.loop-x.x-index 0 c.loop-x-test.true)
    c.loop-x.invariant

swept : (c : goal.After-row_known-1) → IsSwept c.as_slice-x-items.result.now c.args.self.now
    c.sweep-gone.new.self
swept c = subst (λ l. IsSwept l c.args.self.now c.sweep-gone.new.self)
    (sym c.as_slice-x-items.ensures.value) c.sweep-gone.ensures

there : (c : goal.After-row_known-1)
    → 0 < times (slice_index_or c.as_slice-x-items.result.now c.loop-x.x-index 0)
    c.loop-x.self.known.core.held
there c =
    let_there c.as_slice-x-items.result.now (drop (c.loop-x.x-index + 1)
    c.as_slice-x-items.result.now)
    (slice_index_or c.as_slice-x-items.result.now c.loop-x.x-index 0) c.args.self.now
    c.sweep-gone.new.self c.loop-x.self (swept c) (next c)

pub count_down-requires-clause-ready : goal.count_down-requires-clause-ready
count_down-requires-clause-ready c =
    let_ready c.as_slice-x-items.result.now (drop (c.loop-x.x-index + 1)
    c.as_slice-x-items.result.now)
    (slice_index_or c.as_slice-x-items.result.now c.loop-x.x-index 0) c.args.self.now
    c.sweep-gone.new.self c.loop-x.self (swept c) (next c)

pub count_down-requires-clause-slot : goal.count_down-requires-clause-slot
count_down-requires-clause-slot c =
    c.loop-x.invariant.known.slots (slice_index_or c.as_slice-x-items.result.now c.loop-x.x-index 0)
    (there c)

pub count_down-requires-clause-held : goal.count_down-requires-clause-held
count_down-requires-clause-held c = inr (there c)

pub loop-x-preserved : goal.loop-x-preserved
loop-x-preserved c =
    let gone = c.as_slice-x-items.result.now in
    let rest = drop (c.loop-x.x-index + 1) c.as_slice-x-items.result.now in
    let x = slice_index_or c.as_slice-x-items.result.now c.loop-x.x-index 0 in
    let before : IsLetting c.as_slice-x-items.result.now
    (slice_index_or c.as_slice-x-items.result.now c.loop-x.x-index 0 ∷ drop (c.loop-x.x-index + 1)
    c.as_slice-x-items.result.now)
    c.sweep-gone.new.self c.loop-x.self =
    subst (λ l. IsLetting c.as_slice-x-items.result.now l c.sweep-gone.new.self c.loop-x.self)
    (drop_more c.as_slice-x-items.result.now c.loop-x.x-index 0 c.loop-x-test.true)
    c.loop-x.invariant in
    let was : IsSwept c.as_slice-x-items.result.now c.args.self.now c.sweep-gone.new.self =
    subst (λ l. IsSwept l c.args.self.now c.sweep-gone.new.self)
    (sym c.as_slice-x-items.ensures.value) c.sweep-gone.ensures in
    let here : 0 < times (slice_index_or c.as_slice-x-items.result.now c.loop-x.x-index 0)
    c.loop-x.self.known.core.held =
    let_there gone rest x c.args.self.now c.sweep-gone.new.self c.loop-x.self was before in
    lets_one gone rest x c.sweep-gone.new.self c.loop-x.self c.count_down.new.self before
    c.count_down.ensures.step
    (let_held gone rest x c.args.self.now c.sweep-gone.new.self c.loop-x.self was before)
    (count_keeps c.loop-x.self.known c.count_down.new.self.known x c.count_down.result
    ((c.count_down.result + (2 ^ 64 - 1)) % 2 ^ 64)
    (below c.loop-x.self.known x before.known (before.known.slots x here) here)
    c.count_down.ensures.copies)

pub returns : goal.returns
returns c =
    let gone = c.as_slice-x-items.result.now in
    let known : IsKnown c.args.self.now.known = subst (λ (s : Standing). IsKnown s.known)
    c.self.view_is c.self.invariant.worker.known in
    let was : IsSwept c.as_slice-x-items.result.now c.args.self.now c.sweep-gone.new.self =
    subst (λ l. IsSwept l c.args.self.now c.sweep-gone.new.self)
    (sym c.as_slice-x-items.ensures.value) c.sweep-gone.ensures in
    let over : IsLetting c.as_slice-x-items.result.now [] c.sweep-gone.new.self c.loop-x.self =
    subst (λ l. IsLetting c.as_slice-x-items.result.now l c.sweep-gone.new.self c.loop-x.self)
    (drop_all c.loop-x.x-index c.as_slice-x-items.result.now (let over = c.loop-x-test.false in
    omega arith)) c.loop-x.invariant in
    scans gone c.args.self.now c.sweep-gone.new.self c.loop-x.self known was over
