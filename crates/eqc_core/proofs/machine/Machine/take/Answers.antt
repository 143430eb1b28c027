use Rattle.std.proofs.Common.{◌≡◌, ◌<◌, ◌≤◌, ◌^◌, length, true, sym, ap, subst, refl, ◌∙◌, arith}
use Rattle.eqc_core.specs.View.{View, view_at}
use Rattle.eqc_core.specs.State.{State}
use Rattle.eqc_core.specs.Machine.{state_of, IsTurn}
use Rattle.eqc_core.proofs.Stored.{view_is, active_is, turn_fits}
use Rattle.eqc_core.proofs.Taking.{view_at-after}
use Rattle.eqc_core.proofs.machine.Machine.take.Goals as goal

pub returns : goal.returns
returns c =
    let m = c.args.self.now in
    let s = state_of m in
    let id = c.args.event.worker in
    let there : id < length m.workers.items = let n = c.if-id-len.false in let l = c.len.ensures in
    omega arith in
    let is = view_is m.sizes m.workers.items id c.index.result.now there c.index.ensures in
    let on : (view_at s.views id).active ≡ true = ap (λ (v : View). v.active) (is
    ∙ active_is m.sizes c.index.result.now c.if-not-index.false) in
    let turn : IsTurn m id = record { kept = c.requires; there = there; active = on } in
    let may = c.if-not-may.ensures.0 refl in
    let at = view_at-after s id c.args.event.step on (turn_fits m id turn).number may in
    let room = c.if-not-has_room.ensures.0 refl in
    let same = ap (λ (t : State). view_at t.views id) c.in_ok-apply.ensures ∙ at in (
      record {
        active = on;
        may = may;
        room = subst (λ (v : View). length v.held ≤ 2 ^ 40) same room;
      },
      c.in_ok-apply.ensures,
    )

pub returns-then-not-has_room : goal.returns-then-not-has_room
returns-then-not-has_room c = λ allowed.
    let m = c.args.self.now in
    let s = state_of m in
    let id = c.args.event.worker in
    let there : id < length m.workers.items = let n = c.if-id-len.false in let l = c.len.ensures in
    omega arith in
    let turn : IsTurn m id = record { kept = c.requires; there = there; active = allowed.active } in
    let at = view_at-after s id c.args.event.step allowed.active (turn_fits m id turn).number
    allowed.may in
    let same = ap (λ (t : State). view_at t.views id) c.in_ok-apply.ensures ∙ at in
    absurd (let f = c.if-not-has_room.ensures.1 (subst (λ (v : View). length v.held ≤ 2 ^ 40)
    (sym same) allowed.room) in cc)
