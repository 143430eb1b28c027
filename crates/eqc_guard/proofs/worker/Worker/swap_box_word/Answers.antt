use Rattle.std.proofs.Common.{◌≡◌, ℕ, ◌+◌, ◌≤◌, length, refl, ap, sym, subst, arith}
use Rattle.std.specs.Arc.{arc_value}
use Rattle.eqc_core.specs.declared.sizes.Sizes.{Sizes}
use Rattle.eqc_core.specs.Words.{cell_names, slots_of}
use Rattle.eqc_core.specs.Sharing.{boxed}
use Rattle.eqc_guard.specs.Rule.{boxes_from}
use Rattle.eqc_guard.specs.Standing.{Standing}
use Rattle.eqc_guard.specs.Sharing.{MayPutWord}
use Rattle.eqc_guard.proofs.Sharing.{swap_box_allows, boxed_length}
use Rattle.eqc_guard.proofs.Counts.{given_few, seated_after}
use Rattle.eqc_guard.proofs.worker.Worker.swap_box_word.Goals as goal

pub swap-old-requires : goal.swap-old-requires
swap-old-requires c =
    let is = c.self.invariant in
    let me = c.self.inside.seat.me in
    let v = sym c.self.view_is in
    let at : c.box_word-place.result ≡ boxes_from me.0.core.sizes + c.args.b =
    subst (λ (s : Standing). c.box_word-place.result ≡ boxes_from s.known.core.sizes + c.args.b) v
    c.box_word-place.ensures in
    let may : MayPutWord me.0 c.args.b c.args.word =
    subst (λ (s : Standing). MayPutWord s.known c.args.b c.args.word) v c.requires in (
      rw c.deref.ensures is.one_table,
      rw (c.deref.ensures, is.worker.words) (let there = may.there in let e =
          ap boxes_from is.worker.sizes in let f = ap (λ (z : Sizes). z.workers) is.worker.sizes in
          omega arith),
      swap_box_allows c.deref.result.now.shared.key.sizes c.deref.result.now.shared.table_id.slots
          c.self.inside.seat.id c.box_word-place.result me is.worker.active c.args.b c.args.word at
          may,
    )

pub held_with_box-self-inside-requires-clause-enough :
    goal.held_with_box-self-inside-requires-clause-enough
held_with_box-self-inside-requires-clause-enough c =
    let may : MayPutWord c.self.inside.seat.me.0 c.args.b c.args.word =
    subst (λ (s : Standing). MayPutWord s.known c.args.b c.args.word) (sym c.self.view_is)
    c.requires in
    subst (λ (n : ℕ). length (slots_of (cell_names c.args.word)) ≤ n) (sym c.self.invariant.held_is)
    (given_few c.self.inside.seat.me.0.core c.args.word may.held)

pub invariant_of-self : goal.invariant_of-self
invariant_of-self c =
    let is = c.self.invariant in
    let me = c.self.inside.seat.me in
    let w = c.self.inside in
    let may : MayPutWord me.0 c.args.b c.args.word =
    subst (λ (s : Standing). MayPutWord s.known c.args.b c.args.word) (sym c.self.view_is)
    c.requires in
    let told = c.swap-old.ensures.2 in
    let l : c.held_with_box-self-inside.result
    ≡ length (boxed me.0.core c.swap-old.result c.args.word).held =
    boxed_length me.0.core w.held c.held_with_box-self-inside.result c.swap-old.result c.args.word
    may.held is.held_is c.held_with_box-self-inside.ensures in
    seated_after w.seat.table_id (arc_value w.table).shared.table_id
    (arc_value w.table).shared.key.sizes w.sizes me w.number w.held w.phases.items
    w.retired.items w.noted.items w.position w.given w.out.items w.draft is
    c.swap-old.new.seat.table_id c.swap-old.new.seat.me (boxed me.0.core c.swap-old.result
    c.args.word) c.held_with_box-self-inside.result w.phases.items
    w.retired.items w.noted.items w.position w.given w.out.items w.draft
    c.swap-old.ensures.0 told.0 told.1 refl is.worker.active refl refl l is.phases_are
    is.retired_are is.noted_are is.position_is is.given_is is.out_is is.draft_is
