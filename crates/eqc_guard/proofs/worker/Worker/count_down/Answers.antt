use Rattle.std.proofs.Common.{◌≡◌, ℕ, ◌+◌, ◌-◌, ◌<◌, length, refl, ap, sym, subst, ◌∙◌, arith}
use Rattle.std.specs.Arc.{arc_value}
use Rattle.eqc_core.specs.declared.sizes.Sizes.{Sizes}
use Rattle.eqc_core.specs.Words.{announced_words}
use Rattle.eqc_core.specs.Moves.{IsReady}
use Rattle.eqc_core.specs.Counting.{downed}
use Rattle.eqc_guard.specs.Known.{IsHeld}
use Rattle.eqc_guard.specs.Standing.{Standing}
use Rattle.eqc_guard.specs.Rule.{counts_from}
use Rattle.eqc_guard.proofs.Moves.{down_allows}
use Rattle.eqc_guard.proofs.Counts.{down_length, may_down, seated_after}
use Rattle.eqc_guard.proofs.worker.Worker.count_down.Goals as goal

pub fetch_sub-found-requires : goal.fetch_sub-found-requires
fetch_sub-found-requires c =
    let is = c.self.invariant in
    let me = c.self.inside.seat.me in
    let v = sym c.self.view_is in
    let at : c.count_word-word.result ≡ counts_from me.0.core.sizes + c.args.x =
    subst (λ (s : Standing). c.count_word-word.result ≡ counts_from s.known.core.sizes + c.args.x) v
    c.count_word-word.ensures in
    let may =
    may_down me.0 c.args.x is.worker.known (subst (λ (s : Standing). IsReady s.known.core) v
    c.requires.ready) c.requires.slot
    (subst (λ (s : Standing). IsHeld s.known.core c.args.x) v c.requires.held) in (
      rw c.deref.ensures is.one_table,
      rw (c.deref.ensures, is.worker.words) (let there = may.2 in let e =
          ap announced_words is.worker.sizes in let f = ap (λ (z : Sizes). z.names) is.worker.sizes
          in omega arith),
      down_allows c.deref.result.now.shared.key.sizes c.deref.result.now.shared.table_id.slots
          c.self.inside.seat.id c.count_word-word.result me is.worker.active c.args.x at may,
    )

pub count_word-word-requires : goal.count_word-word-requires
count_word-word-requires c =
    let is = c.self.invariant in
    let v = sym c.self.view_is in
    let may =
    may_down c.self.inside.seat.me.0 c.args.x is.worker.known
    (subst (λ (s : Standing). IsReady s.known.core) v c.requires.ready)
    c.requires.slot (subst (λ (s : Standing). IsHeld s.known.core c.args.x) v c.requires.held) in
    subst (λ (s : Standing). c.args.x < s.known.core.sizes.names) c.self.view_is may.2

pub overflow_sub-self : goal.overflow_sub-self
overflow_sub-self c =
    let is = c.self.invariant in
    let v = sym c.self.view_is in
    let me = c.self.inside.seat.me in
    let may =
    may_down me.0 c.args.x is.worker.known (subst (λ (s : Standing). IsReady s.known.core) v
    c.requires.ready) c.requires.slot
    (subst (λ (s : Standing). IsHeld s.known.core c.args.x) v c.requires.held) in
    let l = down_length me.0.core c.args.x c.self.inside.held is.held_is may in
    let some_held = l.0 in
    omega arith

pub invariant_of-self : goal.invariant_of-self
invariant_of-self c =
    let is = c.self.invariant in
    let v = sym c.self.view_is in
    let me = c.self.inside.seat.me in
    let w = c.self.inside in
    let may =
    may_down me.0 c.args.x is.worker.known (subst (λ (s : Standing). IsReady s.known.core) v
    c.requires.ready) c.requires.slot
    (subst (λ (s : Standing). IsHeld s.known.core c.args.x) v c.requires.held) in
    let at : c.count_word-word.result ≡ counts_from me.0.core.sizes + c.args.x =
    subst (λ (s : Standing). c.count_word-word.result ≡ counts_from s.known.core.sizes + c.args.x) v
    c.count_word-word.ensures in
    let back : c.args.x ≡ c.count_word-word.result - counts_from me.0.core.sizes = omega arith in
    let l : w.held - 1 ≡ length (downed me.0.core (c.count_word-word.result - counts_from
    me.0.core.sizes)).held = (down_length me.0.core c.args.x w.held is.held_is may).1
    ∙ ap (λ (k : ℕ). length (downed me.0.core k).held) back in
    let told = c.fetch_sub-found.ensures.2 in
    seated_after w.seat.table_id (arc_value w.table).shared.table_id
    (arc_value w.table).shared.key.sizes w.sizes me w.number w.held w.phases.items
    w.retired.items w.noted.items w.position w.given w.out.items w.draft is
    c.fetch_sub-found.new.seat.table_id c.fetch_sub-found.new.seat.me
    (downed me.0.core (c.count_word-word.result - counts_from me.0.core.sizes)) (w.held - 1)
    w.phases.items w.retired.items w.noted.items w.position
    w.given w.out.items w.draft
    c.fetch_sub-found.ensures.0 told.0 told.1 refl is.worker.active refl refl l is.phases_are
    is.retired_are is.noted_are is.position_is is.given_is is.out_is is.draft_is
