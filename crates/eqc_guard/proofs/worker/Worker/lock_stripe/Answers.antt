use Rattle.std.proofs.Common.{refl, subst}
use Rattle.eqc_core.specs.View.{View}
use Rattle.eqc_core.specs.Locking.{locked}
use Rattle.eqc_guard.specs.Known.{IsKnown}
use Rattle.eqc_guard.specs.Standing.{Standing, Steps}
use Rattle.eqc_guard.proofs.Locking.{steps_none, steps_on}
use Rattle.eqc_guard.proofs.worker.Worker.lock_stripe.Goals as goal

pub loop-init : goal.loop-init
loop-init g c =
    let known : IsKnown c.args.self.now.known = subst (λ (s : Standing). IsKnown s.known)
    c.self.view_is c.self.invariant.worker.known in
    (steps_none c.args.self.now known, refl, refl)

pub returns-in-Some-try_stripe-clause-step : goal.returns-in-Some-try_stripe-clause-step
returns-in-Some-try_stripe-clause-step g c =
    let map = c.in-Some-try_stripe.map.entries in
    let won : Steps c.loop.self (locked c.args.self.now.known.core c.args.stripe map)
    c.try_stripe.new.self =
    subst (λ (v : View). Steps c.loop.self (locked v c.args.stripe map) c.try_stripe.new.self)
    c.loop.invariant.0.known.core c.in-Some-try_stripe.ensures.won.0 in
    steps_on c.args.self.now c.loop.self c.try_stripe.new.self (locked c.args.self.now.known.core
    c.args.stripe map) c.loop.invariant.0 won
