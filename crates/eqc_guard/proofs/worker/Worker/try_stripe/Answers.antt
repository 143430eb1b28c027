use Rattle.std.proofs.Common.{◌≡◌, ◌+◌, ◌*◌, ◌-◌, ◌/◌, ap, sym, subst, arith}
use Rattle.eqc_core.specs.Locking.{MayLock}
use Rattle.eqc_guard.specs.Rule.{locks_from}
use Rattle.eqc_guard.specs.Standing.{Standing, Steps}
use Rattle.eqc_guard.proofs.Locking.{lock_allows, lock_lost, copy_stays}
use Rattle.eqc_guard.proofs.worker.Worker.try_stripe.Goals as goal

pub compare_exchange-found-requires : goal.compare_exchange-found-requires
compare_exchange-found-requires c =
    let is = c.self.invariant in
    let me = c.self.inside.seat.me in
    let v = sym c.self.view_is in
    let at : c.lock_word-word.result ≡ locks_from me.0.core.sizes + 8 * c.args.stripe =
    subst (λ (s : Standing). c.lock_word-word.result ≡ locks_from s.known.core.sizes
    + 8 * c.args.stripe) v c.lock_word-word.ensures in
    let may : MayLock me.0.core c.args.stripe =
    subst (λ (s : Standing). MayLock s.known.core c.args.stripe) v c.requires in (
      rw c.deref.ensures is.one_table,
      rw (c.deref.ensures, is.worker.words) (let there = may.1 in let e =
          ap locks_from is.worker.sizes in omega arith),
      lock_allows c.deref.result.now.shared.key.sizes c.deref.result.now.shared.table_id.slots
          c.self.inside.seat.id c.lock_word-word.result c.args.stripe me is.worker.active at may,
    )

pub returns-then-found-ne0-clause-lost : goal.returns-then-found-ne0-clause-lost
returns-then-found-ne0-clause-lost c = λ e.
    let me = c.self.inside.seat.me in
    let told =
    lock_lost me c.lock_word-word.result ((c.lock_word-word.result - locks_from me.0.core.sizes) /
    8) c.compare_exchange-found.result
    c.compare_exchange-found.new.seat.me c.if-found-ne0.true c.compare_exchange-found.ensures.2 in
    subst
    (λ (s : Standing).
    Steps s s.known.core
    (record {
      forest = c.compare_exchange-found.new.seat.table_id;
      known =
          c.compare_exchange-found.new.seat.me.0;
    }) × (c.compare_exchange-found.new.seat.me.0.copy
    ≡ s.known.copy))
    c.self.view_is (
      record { forest = c.compare_exchange-found.ensures.0; known = told.0 },
      copy_stays me.0 c.compare_exchange-found.new.seat.me.0 c.lock_word-word.result
          c.compare_exchange-found.result told.2,
    )
