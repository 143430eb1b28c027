use Rattle.std.proofs.Common.{◌≡◌, length, arith, ap}
use Rattle.eqc_pair.proofs.StepLemmas.{places_done}
use Rattle.eqc_pair.proofs.places.places_of.Goals as goal

pub returns : goal.returns
returns c =
    let steps = c.steps-steps.ensures.steps in
    let at_end : c.loop-k.k ≡ length c.args.flat.now.steps = omega (arith, ap length steps) in
    places_done c.args.flat.now c.loop-k.places.items c.steps-steps.ensures.lawful
    c.loop-k.invariant.0 (λ i lt. c.loop-k.invariant.1 i (omega (arith, at_end)))
