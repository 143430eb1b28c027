use Rattle.std.proofs.Common.{◌≡◌, sym, subst, ◌∙◌, arith}
use Rattle.std.specs.Arc.{arc_value}
use Rattle.eqc_core.specs.Moves.{IsReady}
use Rattle.eqc_guard.specs.Standing.{Standing}
use Rattle.eqc_guard.specs.Splitting.{HasNumber}
use Rattle.eqc_guard.proofs.Seats.{splits_allowed}
use Rattle.eqc_guard.proofs.Splitting.{left_seated, off_seated}
use Rattle.eqc_guard.proofs.worker.Worker.split_next.Goals as goal

pub split_seat-seat-requires : goal.split_seat-seat-requires
split_seat-seat-requires c =
    let is = c.self.invariant in
    let me = c.self.inside.seat.me in
    let w = c.self.inside in
    let v = sym c.self.view_is in
    let has : HasNumber me.0.core = subst (λ (s : Standing). HasNumber s.known.core) v
    c.requires.number in
    let ready : IsReady me.0.core = subst (λ (s : Standing). IsReady s.known.core) v
    c.requires.ready in (
      rw c.deref.ensures is.one_table,
      rw (c.deref.ensures, is.worker.words) (omega arith),
      splits_allowed c.deref.result.now.shared.key.sizes w.seat.id me.0 is.worker.active ready has.0
          has.1,
    )

pub seated-requires : goal.seated-requires
seated-requires c =
    let is = c.self.invariant in
    let me = c.self.inside.seat.me in
    let w = c.self.inside in
    let v = sym c.self.view_is in
    let has : HasNumber me.0.core = subst (λ (s : Standing). HasNumber s.known.core) v
    c.requires.number in
    let told = c.split_seat-seat.ensures in
    let same : (arc_value c.args.table).shared.table_id ≡ w.seat.table_id =
    subst (λ (s : Standing). (arc_value c.args.table).shared.table_id ≡ s.forest) v
    c.requires.table in
    let size : (arc_value c.args.table).shared.key.sizes ≡ me.0.core.sizes =
    subst (λ (s : Standing). (arc_value c.args.table).shared.key.sizes ≡ s.known.core.sizes) v
    c.requires.key in
    let seated =
    off_seated w.seat.table_id (arc_value w.table).shared.table_id
    (arc_value w.table).shared.key.sizes w.sizes me w.number w.held w.phases.items
    w.retired.items w.noted.items w.position w.given w.out.items w.draft is has
    (arc_value c.args.table).shared.table_id (arc_value c.args.table).shared.key.sizes same (size
    ∙ (is.worker.sizes ∙ sym is.one_key)) in
    rw (told.3, told.4, sym same) seated

pub invariant_of-self : goal.invariant_of-self
invariant_of-self c =
    let is = c.self.invariant in
    let me = c.self.inside.seat.me in
    let w = c.self.inside in
    let v = sym c.self.view_is in
    let has : HasNumber me.0.core = subst (λ (s : Standing). HasNumber s.known.core) v
    c.requires.number in
    let told = c.split_seat-seat.ensures in
    let seated =
    left_seated w.seat.table_id (arc_value w.table).shared.table_id
    (arc_value w.table).shared.key.sizes w.sizes me w.number w.held w.phases.items
    w.retired.items w.noted.items w.position w.given w.out.items w.draft is has in
    rw (told.0, told.2, c.push.ensures.items, c.from.ensures) seated
