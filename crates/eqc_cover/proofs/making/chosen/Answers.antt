use Rattle.std.proofs.Common.{refl, cond}
use Rattle.eqc_tree.specs.Holding.{says}
use Rattle.eqc_cover.proofs.MakingLaws.{call_makes, front_held, back_held, front_stays, back_stays}
use Rattle.eqc_cover.proofs.MakingLaws.{joins}
use Rattle.eqc_cover.proofs.making.chosen.Goals as goal

pub ite-made-requires-clause-g : goal.ite-made-requires-clause-g
ite-made-requires-clause-g g c = front_held g.D.References.entry _ _ _ _ _ _ c.requires.owned
    c.in_ok-high.ensures

pub ite-made-requires-clause-h : goal.ite-made-requires-clause-h
ite-made-requires-clause-h g c = back_held g.D.References.entry _ _ _ _ _ _ c.requires.owned
    c.in_ok-high.ensures

pub give_back-requires : goal.give_back-requires
give_back-requires g c =
    front_stays g.D.References.entry _ _ _ _ _ _ c.requires.owned c.in_ok-high.ensures _ _ _
    (call_makes g.D.References.entry _ _ c.ite-made.result _ _ (λ a. refl) c.ite-made.ensures.ok
    c.ite-made.ensures.stop
    c.ite-made.ensures.only)

pub give_back-requires-2 : goal.give_back-requires-2
give_back-requires-2 g c =
    back_stays g.D.References.entry _ _ _ _ _ _ c.requires.owned c.in_ok-high.ensures _ _ _
    (call_makes g.D.References.entry _ _ c.ite-made.result _ _ (λ a. refl) c.ite-made.ensures.ok
    c.ite-made.ensures.stop
    c.ite-made.ensures.only) _ c.give_back.ensures

pub returns : goal.returns
returns g c =
    joins g.D.References.entry _ _ _ _ _ _ c.requires.owned c.in_ok-high.ensures _ _ _
    c.ite-made.result
    (λ a x y. cond (says (g.D.References.entry c.args.column.now) a) x y)
    (call_makes g.D.References.entry _ _ c.ite-made.result _ _ (λ a. refl) c.ite-made.ensures.ok
    c.ite-made.ensures.stop
    c.ite-made.ensures.only) c.give_back.ensures c.give_back-2.ensures
