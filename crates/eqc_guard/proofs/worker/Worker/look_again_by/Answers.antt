use Rattle.std.proofs.Common.{◌≡◌, ◌+◌, ◌<◌, List, length, set, get_or, refl, ap, sym, subst, ◌∙◌}
use Rattle.std.proofs.Common.{arith}
use Rattle.std.specs.Arc.{arc_value}
use Rattle.eqc_core.specs.declared.phase.Phase.{Phase}
use Rattle.eqc_core.specs.declared.phase.Phase.TheVariants.{Idle}
use Rattle.eqc_core.specs.declared.sizes.Sizes.{Sizes}
use Rattle.eqc_core.specs.View.{phase_at}
use Rattle.eqc_core.specs.Announcing.{MayRecheck, announced_cell, rechecked, rechecked_phase}
use Rattle.eqc_guard.specs.Rule.{cells_from}
use Rattle.eqc_guard.specs.Standing.{Standing}
use Rattle.eqc_guard.specs.Telling.{Rechecks}
use Rattle.eqc_guard.proofs.Moves.{again_allows}
use Rattle.eqc_guard.proofs.Counts.{seated_after}
use Rattle.eqc_guard.proofs.worker.Worker.look_again_by.Goals as goal

pub load-found-requires : goal.load-found-requires
load-found-requires g c =
    let is = c.self.invariant in
    let me = c.self.inside.seat.me in
    let v = sym c.self.view_is in
    let at : c.cell_word-word.result ≡ cells_from me.0.core.sizes + c.args.cell =
    subst (λ (s : Standing). c.cell_word-word.result ≡ cells_from s.known.core.sizes + c.args.cell)
    v c.cell_word-word.ensures in
    let may : MayRecheck me.0.core g.row.K =
    subst (λ (s : Standing). MayRecheck s.known.core g.row.K) v c.requires.may in
    let cell : c.args.cell ≡ announced_cell (phase_at me.0.core g.row.K) =
    subst (λ (s : Standing). c.args.cell ≡ announced_cell (phase_at s.known.core g.row.K)) v
    c.requires.cell in
    let there : c.args.cell < me.0.core.sizes.cells = subst (λ (s : Standing). c.args.cell
    < s.known.core.sizes.cells) v c.requires.there in (
      rw c.deref.ensures is.one_table,
      rw (c.deref.ensures, is.worker.words) (let e = ap cells_from is.worker.sizes in let f =
          ap (λ (z : Sizes). z.cells) is.worker.sizes in omega arith),
      again_allows c.deref.result.now.shared.key.sizes c.deref.result.now.shared.table_id.slots
          c.self.inside.seat.id
          c.cell_word-word.result me is.worker.active g.row.K c.args.cell at cell there may,
    )

pub returns-clause-tells : goal.returns-clause-tells
returns-clause-tells g c = subst (λ (s : Standing). Rechecks s.known g.row.K c.load-found.result
    c.load-found.new.seat.me.0) c.self.view_is c.load-found.ensures.2.3

pub phase_of-phase-requires : goal.phase_of-phase-requires
phase_of-phase-requires g c =
    let is = c.self.invariant in
    let mine = subst (λ (s : Standing). g.row.K < s.known.core.sizes.announcements)
    (sym c.self.view_is) c.requires.may.1 in
    let each = is.worker.known.each in
    let long = ap length is.phases_are in
    omega arith

pub set_phase-requires : goal.set_phase-requires
set_phase-requires g c =
    let is = c.self.invariant in
    let mine = subst (λ (s : Standing). g.row.K < s.known.core.sizes.announcements)
    (sym c.self.view_is) c.requires.may.1 in
    let each = is.worker.known.each in
    let long = ap length is.phases_are in
    omega arith

pub invariant_of-self : goal.invariant_of-self
invariant_of-self g c =
    let is = c.self.invariant in
    let me = c.self.inside.seat.me in
    let w = c.self.inside in
    let told = c.load-found.ensures.2 in
    let phases : (rechecked me.0.core g.row.K c.load-found.result).phases
    ≡ c.set_phase.new.phases.items =
    ap (λ (ps : List Phase). set ps g.row.K (rechecked_phase (get_or ps g.row.K Idle)
    c.load-found.result)) is.phases_are
    ∙ (ap (λ (p : Phase). set w.phases.items g.row.K p)
    (ap (λ (p : Phase). rechecked_phase p c.load-found.result) (sym c.phase_of-phase.ensures)
    ∙ sym c.rechecked.ensures)
    ∙ sym c.set_phase.ensures) in
    seated_after w.seat.table_id (arc_value w.table).shared.table_id
    (arc_value w.table).shared.key.sizes w.sizes me w.number w.held w.phases.items
    w.retired.items w.noted.items w.position w.given w.out.items w.draft is
    c.load-found.new.seat.table_id c.load-found.new.seat.me (rechecked me.0.core g.row.K
    c.load-found.result) w.held
    c.set_phase.new.phases.items w.retired.items w.noted.items w.position w.given w.out.items
    w.draft
    c.load-found.ensures.0 told.0 told.1 refl is.worker.active refl refl is.held_is phases
    is.retired_are is.noted_are is.position_is is.given_is is.out_is
    is.draft_is
