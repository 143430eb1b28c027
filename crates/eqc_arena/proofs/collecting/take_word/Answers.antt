use Rattle.std.proofs.Common.{◌+◌, [], length, if◌then◌else◌, sym, subst, arith}
use Rattle.eqc_arena.specs.Changing.{Changes}
use Rattle.eqc_arena.proofs.Changing.{locks, unlocks}
use Rattle.eqc_arena.proofs.Emptying.{stripe_begins, stripe_leaves}
use Rattle.eqc_arena.proofs.Taking.{with_hand, goes_on}
use Rattle.eqc_arena.proofs.collecting.take_word.Goals as goal

pub returns-in_default-clause-changes : goal.returns-in_default-clause-changes
returns-in_default-clause-changes g c =
    subst (λ h. Changes [] [] h c.args.worker.now.known.core.draft c.args.worker.now
    c.unlock_stripe.new.self) (sym c.requires.rest.no_hand)
    (goes_on
    (with_hand (locks c.stripe_for-stripe.result c.lock_stripe-map.result.entries c.args.worker.now
    c.lock_stripe-map.new.self c.lock_stripe-map.ensures.step))
    (unlocks c.lock_stripe-map.new.self c.unlock_stripe.new.self c.unlock_stripe.ensures.step))

pub returns-clause-changes : goal.returns-clause-changes
returns-clause-changes g c =
    subst (λ h. Changes [] [] h c.args.worker.now.known.core.draft c.args.worker.now
    c.unlock_stripe-2.new.self) (sym c.requires.rest.no_hand)
    (goes_on
    (goes_on
    (with_hand (locks c.stripe_for-stripe.result c.lock_stripe-map.result.entries c.args.worker.now
    c.lock_stripe-map.new.self c.lock_stripe-map.ensures.step))
    c.try_entry-taken.ensures.changes)
    (unlocks c.try_entry-taken.new.worker c.unlock_stripe-2.new.self
    c.unlock_stripe-2.ensures.step))

pub returns-clause-takes : goal.returns-clause-takes
returns-clause-takes g c n s taken b =
    let t = c.lock_stripe-map.result.entries in
    let locked =
    stripe_begins n s c.stripe_for-stripe.result taken (length t) t c.args.worker.now
    c.lock_stripe-map.new.self b c.lock_stripe-map.ensures.step c.lock_stripe-map.ensures.copies
    (omega arith) in
    stripe_leaves n s c.stripe_for-stripe.result (taken
    + (if c.try_entry-taken.result then 1 else 0)) c.try_entry-taken.new.worker
    c.unlock_stripe-2.new.self (c.try_entry-taken.ensures.takes n s taken locked.between)
    c.unlock_stripe-2.ensures.step
    c.unlock_stripe-2.ensures.copies
