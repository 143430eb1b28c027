use Rattle.std.proofs.Common.{◌≡◌, ℕ, ◌+◌, ◌-◌, ◌<◌, List, length, set, refl, ap, sym, subst, ◌∙◌}
use Rattle.std.proofs.Common.{arith}
use Rattle.std.specs.Arc.{arc_value}
use Rattle.eqc_core.specs.declared.phase.Phase.{Phase}
use Rattle.eqc_core.specs.declared.phase.Phase.TheVariants.{Seen}
use Rattle.eqc_core.specs.declared.sizes.Sizes.{Sizes}
use Rattle.eqc_core.specs.Announcing.{MayLook, looked}
use Rattle.eqc_guard.specs.Rule.{cells_from}
use Rattle.eqc_guard.specs.Standing.{Standing}
use Rattle.eqc_guard.proofs.Moves.{look_allows}
use Rattle.eqc_guard.proofs.Counts.{seated_after}
use Rattle.eqc_guard.proofs.worker.Worker.look_by.Goals as goal

pub load-found-requires : goal.load-found-requires
load-found-requires g c =
    let is = c.self.invariant in
    let me = c.self.inside.seat.me in
    let v = sym c.self.view_is in
    let at : c.cell_word-word.result ≡ cells_from me.0.core.sizes + c.args.cell =
    subst (λ (s : Standing). c.cell_word-word.result ≡ cells_from s.known.core.sizes + c.args.cell)
    v c.cell_word-word.ensures in
    let may : MayLook me.0.core g.row.K c.args.cell =
    subst (λ (s : Standing). MayLook s.known.core g.row.K c.args.cell) v c.requires in (
      rw c.deref.ensures is.one_table,
      rw (c.deref.ensures, is.worker.words) (let there = may.2 in let e =
          ap cells_from is.worker.sizes in let f = ap (λ (z : Sizes). z.cells) is.worker.sizes in
          omega arith),
      look_allows c.deref.result.now.shared.key.sizes c.deref.result.now.shared.table_id.slots
          c.self.inside.seat.id
          c.cell_word-word.result me is.worker.active g.row.K c.args.cell at may,
    )

pub set_phase-requires : goal.set_phase-requires
set_phase-requires g c =
    let is = c.self.invariant in
    let mine = subst (λ (s : Standing). g.row.K < s.known.core.sizes.announcements)
    (sym c.self.view_is) c.requires.1 in
    let each = is.worker.known.each in
    let long = ap length is.phases_are in
    omega arith

pub invariant_of-self : goal.invariant_of-self
invariant_of-self g c =
    let is = c.self.invariant in
    let me = c.self.inside.seat.me in
    let w = c.self.inside in
    let v = sym c.self.view_is in
    let at : c.cell_word-word.result ≡ cells_from me.0.core.sizes + c.args.cell =
    subst (λ (s : Standing). c.cell_word-word.result ≡ cells_from s.known.core.sizes + c.args.cell)
    v c.cell_word-word.ensures in
    let back : c.args.cell ≡ c.cell_word-word.result - cells_from me.0.core.sizes = omega arith in
    let told = c.load-found.ensures.2 in
    let seen : ℕ → Phase = λ n. Seen n c.load-found.result in
    let phases : (looked me.0.core g.row.K (c.cell_word-word.result - cells_from me.0.core.sizes)
    c.load-found.result).phases ≡ c.set_phase.new.phases.items =
    ap (λ (n : ℕ). set me.0.core.phases g.row.K (seen n)) (sym back)
    ∙ (ap (λ (ps : List Phase). set ps g.row.K (seen c.args.cell)) is.phases_are
    ∙ sym c.set_phase.ensures) in
    seated_after w.seat.table_id (arc_value w.table).shared.table_id
    (arc_value w.table).shared.key.sizes w.sizes me w.number w.held w.phases.items
    w.retired.items w.noted.items w.position w.given w.out.items w.draft is
    c.load-found.new.seat.table_id c.load-found.new.seat.me (looked me.0.core g.row.K
    (c.cell_word-word.result - cells_from me.0.core.sizes) c.load-found.result) w.held
    c.set_phase.new.phases.items w.retired.items w.noted.items w.position w.given w.out.items
    w.draft
    c.load-found.ensures.0 told.0 told.1 refl is.worker.active refl refl is.held_is phases
    is.retired_are is.noted_are is.position_is is.given_is is.out_is
    is.draft_is
