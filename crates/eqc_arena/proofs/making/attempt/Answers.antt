use Rattle.std.proofs.Common.{◌≡◌, ℕ, ◌^◌, ◌<◌, sym, subst, ◌∙◌}
use Rattle.eqc_tree.specs.Word.{node_word}
use Rattle.eqc_core.specs.Words.{stripe_of}
use Rattle.eqc_guard.proofs.Making.{held_small}
use Rattle.eqc_arena.proofs.Asking.{may_enter, all_made, all_still, all_seen}
use Rattle.eqc_arena.proofs.making.attempt.Goals as goal

pub stripe_for-stripe-requires-clause-low : goal.stripe_for-stripe-requires-clause-low
stripe_for-stripe-requires-clause-low g c =
    subst (λ (n : ℕ). n < 2 ^ 20) (sym c.number.ensures) (held_small c.args.worker.now.known
    c.args.low.now.number c.recall_laws.ensures c.requires.may.low_held)

pub stripe_for-stripe-requires-clause-high : goal.stripe_for-stripe-requires-clause-high
stripe_for-stripe-requires-clause-high g c =
    subst (λ (n : ℕ). n < 2 ^ 20) (sym c.number-2.ensures) (held_small c.args.worker.now.known
    c.args.high.now.number c.recall_laws.ensures c.requires.may.high_held)

pub enter-made-requires : goal.enter-made-requires
enter-made-requires g c =
    let is : c.stripe_for-stripe.result ≡ stripe_of (node_word c.args.var c.args.low.now.number
    c.args.high.now.number) = c.stripe_for-stripe.ensures.stripe
    ∙ (λ i. stripe_of (node_word c.args.var (c.number.ensures i) (c.number-2.ensures i))) in
    may_enter c.lock_stripe-map.result.entries c.stripe_for-stripe.result c.args.var
    c.args.low.now.number c.args.high.now.number
    c.args.worker.now c.lock_stripe-map.new.self c.requires.may c.lock_stripe-map.ensures.step is
    c.requires.differ

pub returns-clause-made : goal.returns-clause-made
returns-clause-made g c =
    all_made c.lock_stripe-map.result.entries c.stripe_for-stripe.result c.args.var
    c.args.low.now.number c.args.high.now.number c.args.worker.now
    c.lock_stripe-map.new.self c.requires.may c.lock_stripe-map.ensures.step c.enter-made.new.worker
    c.unlock_stripe.new.self
    c.unlock_stripe.ensures.step c.enter-made.result c.enter-made.ensures.made

pub returns-clause-still : goal.returns-clause-still
returns-clause-still g c =
    all_still c.lock_stripe-map.result.entries c.stripe_for-stripe.result c.args.var
    c.args.low.now.number c.args.high.now.number
    c.args.worker.now c.lock_stripe-map.new.self c.requires.may c.lock_stripe-map.ensures.step
    c.enter-made.new.worker c.unlock_stripe.new.self
    c.unlock_stripe.ensures.step c.enter-made.result c.enter-made.ensures.still

pub returns-clause-all : goal.returns-clause-all
returns-clause-all g c =
    all_seen c.lock_stripe-map.result.entries c.stripe_for-stripe.result c.args.var
    c.args.low.now.number c.args.high.now.number c.args.worker.now
    c.lock_stripe-map.new.self c.requires.may c.lock_stripe-map.ensures.step c.enter-made.new.worker
    c.unlock_stripe.new.self
    c.unlock_stripe.ensures.step c.enter-made.result c.enter-made.ensures.all
