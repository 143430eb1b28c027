use Rattle.std.proofs.Common.{◌≡◌, ◌+◌, ℕ, [], length, subst, arith, sym}
use Rattle.eqc_arena.specs.Changing.{Changes}
use Rattle.eqc_arena.specs.Emptying.{IsTrying}
use Rattle.eqc_arena.proofs.Changing.{locks, unlocks}
use Rattle.eqc_arena.proofs.Entries.{home_locked, few_entries}
use Rattle.eqc_arena.proofs.Emptying.{stripe_begins, stripe_ends}
use Rattle.eqc_arena.proofs.Taking.{with_hand, goes_on, next_try}
use Rattle.eqc_arena.proofs.collecting.take_stripe.Goals as goal

pub loop-i-init : goal.loop-i-init
loop-i-init g c =
    let len : c.len-i.result ≡ length c.lock_stripe-map.result.entries = c.len-i.ensures.len in
    let home = home_locked c.args.stripe c.lock_stripe-map.result.entries c.args.worker.now
    c.lock_stripe-map.new.self c.requires.rest.ready c.lock_stripe-map.ensures.step in
    let known = c.lock_stripe-map.ensures.step.known.known in
    let few = few_entries c.args.stripe c.lock_stripe-map.result.entries
    c.lock_stripe-map.new.self.known known home in
    let limit = known.limit in
    record {
      home = home;
      left = omega arith;
      few = omega arith;
      changes = with_hand (locks c.args.stripe c.lock_stripe-map.result.entries c.args.worker.now
          c.lock_stripe-map.new.self c.lock_stripe-map.ensures.step);
      tries = λ n taken b.
          let same : taken ≡ taken + 0 = omega arith in
          subst (λ (m : ℕ). IsTrying [] n c.args.stripe m c.len-i.result
          c.lock_stripe-map.result.entries c.lock_stripe-map.new.self.known) same
          (stripe_begins n c.args.stripe c.args.stripe taken c.len-i.result
          c.lock_stripe-map.result.entries c.args.worker.now
          c.lock_stripe-map.new.self b c.lock_stripe-map.ensures.step
          c.lock_stripe-map.ensures.copies (omega arith));
    }

pub try_entry-requires-clause-home : goal.try_entry-requires-clause-home
try_entry-requires-clause-home g c = (c.args.stripe, c.loop-i.invariant.home)

pub loop-i-preserved-then-try_entry : goal.loop-i-preserved-then-try_entry
loop-i-preserved-then-try_entry g c = record {
  home = c.try_entry.ensures.home c.args.stripe c.loop-i.invariant.home;
  left = c.try_entry.ensures.left;
  few = let few = c.loop-i.invariant.few in let lt = c.loop-i-test.true in omega arith;
  changes = goes_on c.loop-i.invariant.changes c.try_entry.ensures.changes;
  tries = λ n taken b.
      next_try n c.args.stripe (taken + c.loop-i.taken) (taken + (c.loop-i.taken + 1)) 1 c.loop-i.i
      c.loop-i.map.entries c.try_entry.new.map.entries c.loop-i.worker c.try_entry.new.worker
      c.loop-i-test.true (omega arith) c.if-try_entry.ensures.tries c.loop-i.invariant.home
      (c.loop-i.invariant.tries n taken b);
}

pub loop-i-preserved : goal.loop-i-preserved
loop-i-preserved g c = record {
  home = c.try_entry.ensures.home c.args.stripe c.loop-i.invariant.home;
  left = c.try_entry.ensures.left;
  few = let few = c.loop-i.invariant.few in let lt = c.loop-i-test.true in omega arith;
  changes = goes_on c.loop-i.invariant.changes c.try_entry.ensures.changes;
  tries = λ n taken b. next_try n c.args.stripe (taken + c.loop-i.taken) (taken + c.loop-i.taken) 0
      c.loop-i.i c.loop-i.map.entries c.try_entry.new.map.entries c.loop-i.worker
      c.try_entry.new.worker
      c.loop-i-test.true (omega arith) c.if-try_entry.ensures.tries c.loop-i.invariant.home
      (c.loop-i.invariant.tries n taken b);
}

pub returns-clause-changes : goal.returns-clause-changes
returns-clause-changes g c =
    subst (λ h. Changes [] [] h c.args.worker.now.known.core.draft c.args.worker.now
    c.unlock_stripe.new.self) (sym c.requires.rest.no_hand)
    (goes_on c.loop-i.invariant.changes (unlocks c.loop-i.worker c.unlock_stripe.new.self
    c.unlock_stripe.ensures.step))

pub returns-clause-tries : goal.returns-clause-tries
returns-clause-tries g c n taken b =
    let over : c.loop-i.i ≡ 0 = let le = c.loop-i-test.false in omega arith in
    stripe_ends n c.args.stripe (taken + c.loop-i.taken) c.loop-i.map.entries c.loop-i.worker
    c.unlock_stripe.new.self
    (subst (λ (i : ℕ). IsTrying [] n c.args.stripe (taken + c.loop-i.taken) i c.loop-i.map.entries
    c.loop-i.worker.known) over (c.loop-i.invariant.tries n taken b))
    c.loop-i.invariant.home c.unlock_stripe.ensures.step c.unlock_stripe.ensures.copies
