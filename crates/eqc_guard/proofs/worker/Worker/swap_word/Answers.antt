use Rattle.std.proofs.Common.{◌≡◌, ℕ, ◌+◌, ◌≤◌, ◌∷◌, ◌++◌, [], List, length, set, refl, ap, sym}
use Rattle.std.proofs.Common.{subst, ◌∙◌, arith}
use Rattle.std.specs.Arc.{arc_value}
use Rattle.eqc_core.specs.declared.sizes.Sizes.{Sizes}
use Rattle.eqc_core.specs.declared.phase.Phase.{Phase}
use Rattle.eqc_core.specs.declared.phase.Phase.TheVariants.{Idle}
use Rattle.eqc_core.specs.Words.{cell_names, slots_of, result_of}
use Rattle.eqc_core.specs.Caching.{swapped}
use Rattle.eqc_guard.specs.Rule.{cells_from}
use Rattle.eqc_guard.specs.Standing.{Standing}
use Rattle.eqc_guard.specs.Telling.{MayFill}
use Rattle.eqc_guard.proofs.Moves.{swap_allows}
use Rattle.eqc_guard.proofs.Counts.{swap_length, given_few, seated_after}
use Rattle.eqc_guard.proofs.worker.Worker.swap_word.Goals as goal

pub swap-old-requires : goal.swap-old-requires
swap-old-requires c =
    let is = c.self.invariant in
    let me = c.self.inside.seat.me in
    let v = sym c.self.view_is in
    let at : c.cell_word-place.result ≡ cells_from me.0.core.sizes + c.args.cell =
    subst (λ (s : Standing). c.cell_word-place.result ≡ cells_from s.known.core.sizes + c.args.cell)
    v c.cell_word-place.ensures in
    let may : MayFill me.0 c.args.cell c.args.word =
    subst (λ (s : Standing). MayFill s.known c.args.cell c.args.word) v c.requires in (
      rw c.deref.ensures is.one_table,
      rw (c.deref.ensures, is.worker.words) (let there = may.there in let e =
          ap cells_from is.worker.sizes in let f = ap (λ (z : Sizes). z.cells) is.worker.sizes in
          omega arith),
      swap_allows c.deref.result.now.shared.key.sizes c.deref.result.now.shared.table_id.slots
          c.self.inside.seat.id c.cell_word-place.result me is.worker.active c.args.cell c.args.word
          at may,
    )

pub held_after-self-inside-requires-clause-enough :
    goal.held_after-self-inside-requires-clause-enough
held_after-self-inside-requires-clause-enough c =
    let may : MayFill c.self.inside.seat.me.0 c.args.cell c.args.word =
    subst (λ (s : Standing). MayFill s.known c.args.cell c.args.word) (sym c.self.view_is)
    c.requires in
    subst (λ (n : ℕ). length (slots_of (cell_names c.args.word)) ≤ n) (sym c.self.invariant.held_is)
    (given_few c.self.inside.seat.me.0.core c.args.word may.held)

pub invariant_of-self : goal.invariant_of-self
invariant_of-self c =
    let is = c.self.invariant in
    let me = c.self.inside.seat.me in
    let w = c.self.inside in
    let may : MayFill me.0 c.args.cell c.args.word =
    subst (λ (s : Standing). MayFill s.known c.args.cell c.args.word) (sym c.self.view_is)
    c.requires in
    let told = c.swap-old.ensures.2 in
    let old : ℕ = c.swap-old.result in
    let l : c.held_after-self-inside.result ≡ length (swapped me.0.core c.swap-old.result
    c.args.word).held =
    swap_length me.0.core w.held c.held_after-self-inside.result c.swap-old.result c.args.word
    may.held is.held_is c.held_after-self-inside.ensures in
    let p : (swapped me.0.core c.swap-old.result c.args.word).phases
    ≡ c.set_phase.new.phases.items = ap (λ (ps : List Phase). set ps 0 Idle) is.phases_are
    ∙ sym c.set_phase.ensures in
    let r : c.retire.new.retired.items ≡ (swapped me.0.core c.swap-old.result c.args.word).retired =
    c.retire.ensures
    ∙ ap (λ (xs : List ℕ). xs ++ slots_of (result_of c.swap-old.result ∷ [])) is.retired_are in
    seated_after w.seat.table_id (arc_value w.table).shared.table_id
    (arc_value w.table).shared.key.sizes w.sizes me w.number w.held w.phases.items
    w.retired.items w.noted.items w.position w.given w.out.items w.draft is
    c.swap-old.new.seat.table_id c.swap-old.new.seat.me (swapped me.0.core c.swap-old.result
    c.args.word) c.held_after-self-inside.result c.set_phase.new.phases.items
    c.retire.new.retired.items w.noted.items w.position w.given w.out.items w.draft
    c.swap-old.ensures.0 told.0 told.1 refl is.worker.active refl refl l p r is.noted_are
    is.position_is is.given_is is.out_is is.draft_is
