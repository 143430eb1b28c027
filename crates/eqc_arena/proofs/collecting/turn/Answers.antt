use Rattle.std.proofs.Common.{◌≡◌, ℕ, ◌+◌, [], arith, subst}
use Rattle.eqc_arena.specs.Emptying.{IsBetween}
use Rattle.eqc_arena.proofs.Changing.{stays, still, here, lengths_now, begins}
use Rattle.eqc_arena.proofs.Emptying.{next_turn, took_none}
use Rattle.eqc_arena.proofs.collecting.turn.Goals as goal

pub loop-stripe-init : goal.loop-stripe-init
loop-stripe-init g c = record {
  few = omega arith;
  changes =
      stays c.args.worker.now c.recall_laws.ensures;
  tries = λ n b. b;
}

pub take_stripe-taken-requires-clause-rest : goal.take_stripe-taken-requires-clause-rest
take_stripe-taken-requires-clause-rest g c = begins c.requires.rest c.loop-stripe.invariant.changes

pub take_stripe-taken-requires-clause-room : goal.take_stripe-taken-requires-clause-room
take_stripe-taken-requires-clause-room g c = let room = c.requires.room in
    omega (arith, lengths_now c.loop-stripe.invariant.changes)

pub take_fallen-taken-requires-clause-rest : goal.take_fallen-taken-requires-clause-rest
take_fallen-taken-requires-clause-rest g c =
    begins (begins c.requires.rest c.loop-stripe.invariant.changes)
    c.take_stripe-taken.ensures.changes

pub take_fallen-taken-requires-clause-room : goal.take_fallen-taken-requires-clause-room
take_fallen-taken-requires-clause-room g c = let room = c.requires.room in
    omega (
      arith,
      lengths_now c.loop-stripe.invariant.changes,
      lengths_now c.take_stripe-taken.ensures.changes,
    )

pub loop-stripe-preserved : goal.loop-stripe-preserved
loop-stripe-preserved g c =
    let t = still c.loop-stripe.invariant.changes (here c.loop-stripe.invariant.changes
    c.take_stripe-taken.ensures.changes) in
    record {
      few = let before = c.loop-stripe.invariant.few in let few = c.take_stripe-taken.ensures.few in
          let fell = c.take_fallen-taken.ensures.few in omega arith;
      changes = still t (here t c.take_fallen-taken.ensures.changes);
      tries = λ n b.
          c.take_fallen-taken.ensures.takes n (c.loop-stripe.stripe + 1) (c.loop-stripe.taken
          + c.take_stripe-taken.result)
          (c.take_stripe-taken.ensures.tries n c.loop-stripe.taken (c.loop-stripe.invariant.tries n
          b));
    }

pub returns-clause-tries : goal.returns-clause-tries
returns-clause-tries g c n b =
    let over : c.loop-stripe.stripe ≡ 16 = let le = c.loop-stripe-test.false in let end =
    c.loop-stripe.auto.stripe-end in omega arith in
    let done : IsBetween [] n 16 c.loop-stripe.taken c.loop-stripe.worker.known =
    subst (λ (s : ℕ). IsBetween [] n s c.loop-stripe.taken c.loop-stripe.worker.known) over
    (c.loop-stripe.invariant.tries n b) in (
      next_turn n c.loop-stripe.taken c.loop-stripe.worker.known done,
      λ zero. took_none n c.loop-stripe.worker.known
          (subst (λ (m : ℕ). IsBetween [] n 16 m c.loop-stripe.worker.known) zero done),
    )
