use Rattle.std.proofs.Common.{refl}
use Rattle.eqc_tree.specs.Operation.{operate}
use Rattle.eqc_cover.proofs.MakingLaws.{call_makes, front_held, back_held, front_stays, back_stays}
use Rattle.eqc_cover.proofs.MakingLaws.{joins}
use Rattle.eqc_cover.proofs.making.joined.Goals as goal

pub apply-made-requires-clause-f : goal.apply-made-requires-clause-f
apply-made-requires-clause-f g c = front_held g.D.References.entry _ _ _ _ _ _ c.requires
    c.in_ok-front.ensures

pub apply-made-requires-clause-g : goal.apply-made-requires-clause-g
apply-made-requires-clause-g g c = back_held g.D.References.entry _ _ _ _ _ _ c.requires
    c.in_ok-front.ensures

pub give_back-requires : goal.give_back-requires
give_back-requires g c =
    front_stays g.D.References.entry _ _ _ _ _ _ c.requires c.in_ok-front.ensures _ _ _
    (call_makes g.D.References.entry _ _ c.apply-made.result _ _ (λ a. refl) c.apply-made.ensures.ok
    c.apply-made.ensures.stop
    c.apply-made.ensures.only)

pub give_back-requires-2 : goal.give_back-requires-2
give_back-requires-2 g c =
    back_stays g.D.References.entry _ _ _ _ _ _ c.requires c.in_ok-front.ensures _ _ _
    (call_makes g.D.References.entry _ _ c.apply-made.result _ _ (λ a. refl) c.apply-made.ensures.ok
    c.apply-made.ensures.stop
    c.apply-made.ensures.only) _ c.give_back.ensures

pub returns : goal.returns
returns g c =
    joins g.D.References.entry _ _ _ _ _ _ c.requires c.in_ok-front.ensures _ _ _
    c.apply-made.result (λ _. operate c.args.op)
    (call_makes g.D.References.entry _ _ c.apply-made.result _ _ (λ a. refl) c.apply-made.ensures.ok
    c.apply-made.ensures.stop
    c.apply-made.ensures.only) c.give_back.ensures c.give_back-2.ensures
