use Rattle.std.proofs.Common.{◌≡◌, ℕ, ◌-◌, ◌*◌, ◌/◌, ◌<◌, List, length, set, get_or, refl, ap, sym}
use Rattle.std.proofs.Common.{subst, ◌∙◌, arith}
use Rattle.std.specs.Arc.{arc_value}
use Rattle.eqc_core.specs.declared.phase.Phase.{Phase}
use Rattle.eqc_core.specs.declared.phase.Phase.TheVariants.{Idle}
use Rattle.eqc_core.specs.View.{phase_at}
use Rattle.eqc_core.specs.Words.{word_at}
use Rattle.eqc_core.specs.Announcing.{MayAnnounce, announced, announced_phase}
use Rattle.eqc_guard.specs.Known.{Stepped}
use Rattle.eqc_guard.specs.Standing.{Standing, Steps}
use Rattle.eqc_guard.specs.Copying.{KeepsCells}
use Rattle.eqc_guard.proofs.Moves.{own_word_there, word_after, announce_allows}
use Rattle.eqc_guard.proofs.Copying.{set_keeps, word_before, number_there}
use Rattle.eqc_guard.proofs.Counts.{seated_after}
use Rattle.eqc_guard.proofs.worker.Worker.announce.Goals as goal

pub store-requires : goal.store-requires
store-requires c =
    let is = c.self.invariant in
    let me = c.self.inside.seat.me in
    let v = sym c.self.view_is in
    let at : c.announcement_word-word.result ≡ 2 * word_at me.0.core.sizes me.0.core.number
    c.args.k =
    subst (λ (s : Standing). c.announcement_word-word.result ≡ 2 * word_at s.known.core.sizes
    s.known.core.number c.args.k) v c.announcement_word-word.ensures in
    let may : MayAnnounce me.0.core c.args.k c.from.result =
    rw c.from.ensures (subst (λ (s : Standing). MayAnnounce s.known.core c.args.k c.args.x) v
    c.requires) in (
      rw c.deref.ensures is.one_table,
      rw (c.deref.ensures, is.worker.words) (let there = own_word_there c.self.inside.sizes
          me.0.core c.args.k is.worker.sizes is.worker.number may.1 in omega arith),
      announce_allows c.deref.result.now.shared.key.sizes c.deref.result.now.shared.table_id.slots
          c.self.inside.seat.id
          c.announcement_word-word.result me is.worker.active c.args.k c.from.result at may,
    )

pub phase_of-phase-requires : goal.phase_of-phase-requires
phase_of-phase-requires c =
    let is = c.self.invariant in
    let mine = subst (λ (s : Standing). c.args.k < s.known.core.sizes.announcements)
    (sym c.self.view_is) c.requires.1 in
    let each = is.worker.known.each in
    let long = ap length is.phases_are in
    omega arith

pub set_phase-requires : goal.set_phase-requires
set_phase-requires c =
    let is = c.self.invariant in
    let mine = subst (λ (s : Standing). c.args.k < s.known.core.sizes.announcements)
    (sym c.self.view_is) c.requires.1 in
    let each = is.worker.known.each in
    let long = ap length is.phases_are in
    omega arith

pub returns-clause-step : goal.returns-clause-step
returns-clause-step c =
    let me = c.self.inside.seat.me in
    let v = sym c.self.view_is in
    let at : c.announcement_word-word.result ≡ 2 * word_at me.0.core.sizes me.0.core.number
    c.args.k =
    subst (λ (s : Standing). c.announcement_word-word.result ≡ 2 * word_at s.known.core.sizes
    s.known.core.number c.args.k) v c.announcement_word-word.ensures in
    let back : c.args.k ≡ (c.announcement_word-word.result - 2 * word_at me.0.core.sizes
    me.0.core.number 0) / 2 =
    word_after me.0.core.sizes me.0.core.number c.args.k
    ∙ ap (λ (n : ℕ). (n - 2 * word_at me.0.core.sizes me.0.core.number 0) / 2) (sym at) in
    let stepped : Stepped me.0 (announced me.0.core c.args.k) c.store.new.seat.me.0 =
    subst (λ (n : ℕ). Stepped me.0 (announced me.0.core n) c.store.new.seat.me.0) (sym back)
    c.store.ensures.2.0 in
    let new : Standing = record {
      forest = c.store.new.seat.table_id;
      known =
          c.store.new.seat.me.0;
    } in
    subst (λ (s : Standing). Steps s (announced s.known.core c.args.k) new) c.self.view_is
    (record { forest = c.store.ensures.0; known = stepped })

pub invariant_of-self : goal.invariant_of-self
invariant_of-self c =
    let is = c.self.invariant in
    let me = c.self.inside.seat.me in
    let w = c.self.inside in
    let v = sym c.self.view_is in
    let at : c.announcement_word-word.result ≡ 2 * word_at me.0.core.sizes me.0.core.number
    c.args.k =
    subst (λ (s : Standing). c.announcement_word-word.result ≡ 2 * word_at s.known.core.sizes
    s.known.core.number c.args.k) v c.announcement_word-word.ensures in
    let back : c.args.k ≡ (c.announcement_word-word.result - 2 * word_at me.0.core.sizes
    me.0.core.number 0) / 2 =
    word_after me.0.core.sizes me.0.core.number c.args.k
    ∙ ap (λ (n : ℕ). (n - 2 * word_at me.0.core.sizes me.0.core.number 0) / 2) (sym at) in
    let told = c.store.ensures.2 in
    let phases : (announced me.0.core ((c.announcement_word-word.result - 2 * word_at
    me.0.core.sizes me.0.core.number 0) / 2)).phases ≡ c.set_phase.new.phases.items =
    ap (λ (n : ℕ). set me.0.core.phases n (announced_phase (phase_at me.0.core n))) (sym back)
    ∙ (ap (λ (ps : List Phase). set ps c.args.k (announced_phase (get_or ps c.args.k Idle)))
    is.phases_are
    ∙ (ap (λ (p : Phase). set w.phases.items c.args.k p)
    (ap announced_phase (sym c.phase_of-phase.ensures) ∙ sym c.announced.ensures)
    ∙ sym c.set_phase.ensures)) in
    seated_after w.seat.table_id (arc_value w.table).shared.table_id
    (arc_value w.table).shared.key.sizes w.sizes me w.number w.held w.phases.items
    w.retired.items w.noted.items w.position w.given w.out.items w.draft is
    c.store.new.seat.table_id c.store.new.seat.me
    (announced me.0.core ((c.announcement_word-word.result - 2 * word_at me.0.core.sizes
    me.0.core.number 0) / 2)) w.held
    c.set_phase.new.phases.items w.retired.items w.noted.items w.position w.given w.out.items
    w.draft
    c.store.ensures.0 told.0 told.1 refl is.worker.active refl refl is.held_is phases is.retired_are
    is.noted_are is.position_is is.given_is is.out_is
    is.draft_is

-- the announcement word stands before the cells
pub returns-clause-cells : goal.returns-clause-cells
returns-clause-cells c =
    let is = c.self.invariant in
    let me = c.self.inside.seat.me in
    let v = sym c.self.view_is in
    let at : c.announcement_word-word.result ≡ 2 * word_at me.0.core.sizes me.0.core.number
    c.args.k =
    subst (λ (s : Standing). c.announcement_word-word.result ≡ 2 * word_at s.known.core.sizes
    s.known.core.number c.args.k) v c.announcement_word-word.ensures in
    let word = subst (λ (s : Standing). c.args.k < s.known.core.sizes.announcements) v c.requires.1
    in
    let before = word_before me.0.core.sizes me.0.core.number c.args.k word
    (number_there _ _ me is.worker) in
    let told = c.store.ensures.2 in
    subst (λ (s : Standing). KeepsCells s.known c.store.new.seat.me.0) c.self.view_is
    (set_keeps me.0 c.store.new.seat.me.0 c.announcement_word-word.result c.from.result
    (omega arith) told.2)
