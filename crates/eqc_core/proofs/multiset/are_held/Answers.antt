use Rattle.std.proofs.Common.{refl, arith}
use Rattle.eqc_core.proofs.Names.{held_by_place}
use Rattle.eqc_core.proofs.multiset.are_held.Goals as goal

pub returns : goal.returns
returns c =
    let all = held_by_place c.args.names.now c.args.held.now (λ k lt. c.loop-x.invariant k
    (let past = c.loop-x-test.false in omega arith)) in
    ((λ t. all), (λ h. refl))
