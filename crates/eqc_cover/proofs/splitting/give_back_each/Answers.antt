use Rattle.eqc_cover.proofs.SplitsLaws.{last_held, leaves_more, rest_owned}
use Rattle.eqc_cover.proofs.splitting.give_back_each.Goals as goal

pub give_back-requires : goal.give_back-requires
give_back-requires g c = last_held g.D.References.entry _ c.loop-reference.made.items
    c.pop.new.self.items c.in-Some.reference c.in-Some.ensures.items c.loop-reference.invariant.1

pub loop-reference-preserved : goal.loop-reference-preserved
loop-reference-preserved g c = (
  leaves_more g.D.References.entry _ _ _ _ c.loop-reference.made.items c.pop.new.self.items
      c.in-Some.reference c.in-Some.ensures.items c.loop-reference.invariant.0 c.give_back.ensures,
  rest_owned g.D.References.entry _ _ c.loop-reference.made.items c.pop.new.self.items
      c.in-Some.reference c.in-Some.ensures.items c.loop-reference.invariant.1 c.give_back.ensures,
)
