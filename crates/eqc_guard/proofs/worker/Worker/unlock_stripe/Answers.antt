use Rattle.std.proofs.Common.{◌≡◌, ◌+◌, ◌*◌, ◌∙◌, [], ◌∷◌, true, ap, refl, sym, subst, arith}
use Rattle.std.specs.Arc.{arc_value}
use Rattle.atomic_table.specs.Table.{rest}
use Rattle.eqc_core.specs.Locking.{MayUnlock, unlocked}
use Rattle.eqc_guard.specs.Known.{Known}
use Rattle.eqc_guard.specs.Rule.{locks_from}
use Rattle.eqc_guard.specs.Locking.{MayHome}
use Rattle.eqc_guard.specs.Standing.{Standing, slots_out}
use Rattle.eqc_guard.proofs.Locking.{unlock_allows}
use Rattle.eqc_guard.proofs.Counts.{carries_one, seated_with}
use Rattle.eqc_guard.proofs.worker.Worker.unlock_stripe.Goals as goal

pub exchange-blank-requires : goal.exchange-blank-requires
exchange-blank-requires c =
    let is = c.self.invariant in
    let me = c.self.inside.seat.me in
    let home : MayHome me.0.core c.args.stripe c.args.map.entries =
    subst (λ (s : Standing). MayHome s.known.core c.args.stripe c.args.map.entries)
    (sym c.self.view_is) c.requires in
    let one = carries_one me home.0 is.carries home.2.1 in (
      rw c.deref.ensures is.one_table,
      (
        one.0,
        one.1
            ∙ (λ j. (home.1 j, one.0) ∷ rest (sym one.1 j)),
      ),
    )

pub store-requires : goal.store-requires
store-requires c =
    let is = c.self.invariant in
    let me = c.self.inside.seat.me in
    let out = c.exchange-blank.new.seat.me in
    let e = c.exchange-blank.ensures in
    let v = sym c.self.view_is in
    let home : MayHome me.0.core c.args.stripe c.args.map.entries =
    subst (λ (s : Standing). MayHome s.known.core c.args.stripe c.args.map.entries) v c.requires
    in
    let one = carries_one me home.0 is.carries home.2.1 in
    let same : out.0 ≡ me.0 = λ j. (e.3 j).0 in
    let carried : out.1 ≡ (c.args.stripe, c.args.map) ∷ [] = (λ j. (e.3 j).1)
    ∙ (λ j. (c.args.stripe, c.args.map) ∷ rest (one.1 j)) in
    let at : c.lock_word-word.result ≡ locks_from me.0.core.sizes + 8 * c.args.stripe =
    subst (λ (s : Standing). c.lock_word-word.result ≡ locks_from s.known.core.sizes
    + 8 * c.args.stripe) v c.lock_word-word.ensures in
    let on : out.0.core.active ≡ true = ap (λ (k : Known). k.core.active) same ∙ is.worker.active in (
      rw c.deref-2.ensures (e.0 ∙ is.one_table),
      rw (c.deref-2.ensures, is.worker.words) (let there = is.worker.known.hand home.0 home.2.1 in
          let s = home.1 in let z = ap locks_from is.worker.sizes in omega arith),
      unlock_allows c.deref-2.result.now.shared.key.sizes c.deref-2.result.now.shared.table_id.slots
          c.exchange-blank.new.seat.id
          c.lock_word-word.result c.args.stripe out on (at
          ∙ ap (λ (k : Known). locks_from k.core.sizes + 8 * c.args.stripe) (sym same))
          home.0 c.args.map home.1 carried (subst (λ (k : Known). MayUnlock k.core home.0
          c.args.map.entries) (sym same) home.2),
    )

pub invariant_of-self : goal.invariant_of-self
invariant_of-self c =
    let is = c.self.invariant in
    let me = c.self.inside.seat.me in
    let w = c.self.inside in
    let out = c.exchange-blank.new.seat.me in
    let e = c.exchange-blank.ensures in
    let home : MayHome me.0.core c.args.stripe c.args.map.entries =
    subst (λ (s : Standing). MayHome s.known.core c.args.stripe c.args.map.entries)
    (sym c.self.view_is) c.requires in
    let one = carries_one me home.0 is.carries home.2.1 in
    let same : out.0 ≡ me.0 = λ j. (e.3 j).0 in
    let carried : out.1 ≡ (c.args.stripe, c.args.map) ∷ [] = (λ j. (e.3 j).1)
    ∙ (λ j. (c.args.stripe, c.args.map) ∷ rest (one.1 j)) in
    let told = c.store.ensures.2 in
    seated_with w.seat.table_id (arc_value w.table).shared.table_id
    (arc_value w.table).shared.key.sizes w.sizes me w.number w.held w.phases.items
    w.retired.items w.noted.items w.position w.given w.out.items w.draft is
    c.store.new.seat.table_id c.store.new.seat.me (unlocked me.0.core) w.held w.phases.items
    w.retired.items w.noted.items w.position w.given w.out.items w.draft
    (c.store.ensures.0 ∙ e.0) (told.0.core ∙ ap (λ (k : Known). unlocked k.core) same) told.0.known
    (ap slots_out (told.1 ∙ ap rest carried)) refl
    is.worker.active refl is.held_is is.phases_are is.retired_are is.noted_are is.position_is
    is.given_is is.out_is is.draft_is
