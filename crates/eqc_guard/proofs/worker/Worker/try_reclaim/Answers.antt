use Rattle.std.proofs.Common.{◌≡◌, ◌+◌, ◌^◌, ◌<◌, ◌≤◌, ◌∙◌, ℕ, [], ◌∷◌, Option, length}
use Rattle.std.proofs.Common.{length-append, if◌then◌else◌, eqb, eq-eqb, ap, refl, sym, subst}
use Rattle.std.proofs.Common.{arith}
use Rattle.std.specs.Arc.{arc_value}
use Rattle.eqc_core.specs.declared.sizes.Sizes.{Sizes}
use Rattle.eqc_core.specs.View.{Hand, hand_of}
use Rattle.eqc_core.specs.Words.{announced_words, low_of, high_of, children, slots_of}
use Rattle.eqc_core.specs.Moves.{IsReady}
use Rattle.eqc_guard.specs.Standing.{Standing, Steps, slots_out, stripes_in}
use Rattle.eqc_guard.specs.Telling.{Copies}
use Rattle.eqc_guard.specs.Making.{IsEntry, taken_back}
use Rattle.eqc_guard.specs.Rule.{counts_from}
use Rattle.eqc_guard.proofs.Making.{reclaim_allows, reclaim_won, entry_there}
use Rattle.eqc_guard.proofs.Counts.{seated_with}
use Rattle.eqc_guard.proofs.worker.Worker.try_reclaim.Goals as goal

pub count_word-place-requires : goal.count_word-place-requires
count_word-place-requires c =
    let entry : IsEntry c.self.inside.seat.me.0.core c.args.word c.args.x =
    subst (λ (s : Standing). IsEntry s.known.core c.args.word c.args.x) (sym c.self.view_is)
    c.requires.entry in
    subst (λ (s : Standing). c.args.x < s.known.core.sizes.names) c.self.view_is
    (entry_there c.self.inside.seat.me.0 c.args.x c.args.word c.self.invariant.worker.known
    entry)

pub compare_exchange-count-requires : goal.compare_exchange-count-requires
compare_exchange-count-requires c =
    let is = c.self.invariant in
    let me = c.self.inside.seat.me in
    let v = sym c.self.view_is in
    let at : c.count_word-place.result ≡ counts_from me.0.core.sizes + c.args.x =
    subst (λ (s : Standing). c.count_word-place.result ≡ counts_from s.known.core.sizes + c.args.x)
    v c.count_word-place.ensures in
    let ready : IsReady me.0.core = subst (λ (s : Standing). IsReady s.known.core) v
    c.requires.ready in
    let entry : IsEntry me.0.core c.args.word c.args.x =
    subst (λ (s : Standing). IsEntry s.known.core c.args.word c.args.x) v c.requires.entry in
    let room : length me.0.core.held ≤ 2 ^ 39 = subst (λ (s : Standing). length s.known.core.held
    ≤ 2 ^ 39) v c.requires.room in (
      rw c.deref.ensures is.one_table,
      rw (c.deref.ensures, is.worker.words)
          (let there = entry_there me.0 c.args.x c.args.word is.worker.known entry in let e =
          ap announced_words is.worker.sizes in let f =
          ap (λ (z : Sizes). z.names) is.worker.sizes in omega arith),
      reclaim_allows c.deref.result.now.shared.key.sizes c.deref.result.now.shared.table_id.slots
          c.self.inside.seat.id c.count_word-place.result
          me is.worker.active c.args.x c.args.word at is.worker.known entry ready room,
    )

pub invariant_of-self-2 : goal.invariant_of-self-2
unfolding low_of high_of
invariant_of-self-2 c =
    let is = c.self.invariant in
    let me = c.self.inside.seat.me in
    let w = c.self.inside in
    let v = sym c.self.view_is in
    let at : c.count_word-place.result ≡ counts_from me.0.core.sizes + c.args.x =
    subst (λ (s : Standing). c.count_word-place.result ≡ counts_from s.known.core.sizes + c.args.x)
    v c.count_word-place.ensures in
    let entry : IsEntry me.0.core c.args.word c.args.x =
    subst (λ (s : Standing). IsEntry s.known.core c.args.word c.args.x) v c.requires.entry in
    let told =
    reclaim_won me c.count_word-place.result c.args.x c.args.word c.compare_exchange-count.result
    c.compare_exchange-count.new.seat.me at
    c.if-count-ne1.false entry c.compare_exchange-count.ensures.2 in
    let hand = entry.2 in
    let low : c.unpack_node-low.result.1 ≡ low_of c.args.word =
    λ j. (c.unpack_node-low.ensures.fields j).1 in
    let high : c.unpack_node-low.result.2 ≡ high_of c.args.word =
    λ j. (c.unpack_node-low.ensures.fields j).2 in
    let l : c.held_with_children-self-inside.result
    ≡ length (taken_back me.0.core c.args.x c.args.word).held =
    c.held_with_children-self-inside.ensures
    ∙ ((λ j. is.held_is j + length (slots_of (low j ∷ high j ∷ [])))
    ∙ sym (length-append me.0.core.held (slots_of (children c.args.word)))) in
    let carried : slots_out c.compare_exchange-count.new.seat.me.1 ≡ (hand_of me.0.core.hand).stripe
    ∷ [] = ap slots_out told.1
    ∙ (is.carries ∙ (ap stripes_in hand ∙ ap (λ (o : Option Hand). (hand_of o).stripe ∷ [])
    (sym hand))) in
    seated_with w.seat.table_id (arc_value w.table).shared.table_id
    (arc_value w.table).shared.key.sizes w.sizes me w.number w.held w.phases.items
    w.retired.items w.noted.items w.position w.given w.out.items w.draft is
    c.compare_exchange-count.new.seat.table_id c.compare_exchange-count.new.seat.me
    (taken_back me.0.core c.args.x c.args.word)
    c.held_with_children-self-inside.result w.phases.items w.retired.items w.noted.items w.position
    w.given w.out.items w.draft
    c.compare_exchange-count.ensures.0 told.0.core told.0.known carried refl is.worker.active refl l
    is.phases_are is.retired_are is.noted_are is.position_is is.given_is is.out_is is.draft_is

pub returns-clause-won : goal.returns-clause-won
unfolding low_of high_of
returns-clause-won c =
    let me = c.self.inside.seat.me in
    let v = sym c.self.view_is in
    let at : c.count_word-place.result ≡ counts_from me.0.core.sizes + c.args.x =
    subst (λ (s : Standing). c.count_word-place.result ≡ counts_from s.known.core.sizes + c.args.x)
    v c.count_word-place.ensures in
    let entry : IsEntry me.0.core c.args.word c.args.x =
    subst (λ (s : Standing). IsEntry s.known.core c.args.word c.args.x) v c.requires.entry in
    let told =
    reclaim_won me c.count_word-place.result c.args.x c.args.word c.compare_exchange-count.result
    c.compare_exchange-count.new.seat.me at
    c.if-count-ne1.false entry c.compare_exchange-count.ensures.2 in (
      λ j. (c.unpack_node-low.ensures.fields j).1,
      λ j. (c.unpack_node-low.ensures.fields j).2,
      subst
          (λ (s : Standing). Steps s (taken_back s.known.core c.args.x c.args.word)
          (record {
            forest = c.compare_exchange-count.new.seat.table_id;
            known =
                c.compare_exchange-count.new.seat.me.0;
          }))
          c.self.view_is
          (record { forest = c.compare_exchange-count.ensures.0; known = told.0 }),
    )

pub returns-clause-copies : goal.returns-clause-copies
returns-clause-copies c =
    let me = c.self.inside.seat.me in
    let v = sym c.self.view_is in
    let at : c.count_word-place.result ≡ counts_from me.0.core.sizes + c.args.x =
    subst (λ (s : Standing). c.count_word-place.result ≡ counts_from s.known.core.sizes + c.args.x)
    v c.count_word-place.ensures in
    let entry : IsEntry me.0.core c.args.word c.args.x =
    subst (λ (s : Standing). IsEntry s.known.core c.args.word c.args.x) v c.requires.entry in
    let told =
    reclaim_won me c.count_word-place.result c.args.x c.args.word c.compare_exchange-count.result
    c.compare_exchange-count.new.seat.me at
    c.if-count-ne1.false entry c.compare_exchange-count.ensures.2 in
    let one = c.if-count-ne1.false in (
      c.compare_exchange-count.result,
      ((λ e. absurd (cc)), λ n. absurd (n one)),
      subst
          (λ (s : Standing).
          Copies s.known (counts_from s.known.core.sizes + c.args.x) c.compare_exchange-count.result
          (if eqb c.compare_exchange-count.result 1 then 0 else c.compare_exchange-count.result)
          c.compare_exchange-count.new.seat.me.0)
          c.self.view_is
          (rw (eq-eqb c.compare_exchange-count.result 1 one)
          (subst (λ (i : ℕ). Copies c.self.inside.seat.me.0 i c.compare_exchange-count.result 0
          c.compare_exchange-count.new.seat.me.0) at told.2)),
    )

pub returns-clause-counted : goal.returns-clause-counted
returns-clause-counted c =
    let me = c.self.inside.seat.me in
    let v = sym c.self.view_is in
    let at : c.count_word-place.result ≡ counts_from me.0.core.sizes + c.args.x =
    subst (λ (s : Standing). c.count_word-place.result ≡ counts_from s.known.core.sizes + c.args.x)
    v c.count_word-place.ensures in
    let entry : IsEntry me.0.core c.args.word c.args.x =
    subst (λ (s : Standing). IsEntry s.known.core c.args.word c.args.x) v c.requires.entry in
    let told =
    reclaim_won me c.count_word-place.result c.args.x c.args.word c.compare_exchange-count.result
    c.compare_exchange-count.new.seat.me at
    c.if-count-ne1.false entry c.compare_exchange-count.ensures.2 in
    subst (λ (s : Standing). c.compare_exchange-count.new.seat.me.0.counted ≡ s.known.counted)
    c.self.view_is told.4
