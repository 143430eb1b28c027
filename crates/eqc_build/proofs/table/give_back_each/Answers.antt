use Rattle.std.proofs.Common.{◌∙◌, ap, ◌++◌, ◌∷◌, []}
use Rattle.eqc_build.proofs.TableLaws.{popped, popped_held, popped_owned}
use Rattle.eqc_build.proofs.table.give_back_each.Goals as goal

pub give_back-requires : goal.give_back-requires
give_back-requires g c =
    popped_held g.D.References.entry _ c.loop-entry.table.items c.pop.new.self.items
    c.in-Some-entry.reference
    (c.in-Some.ensures.items ∙ ap (λ o. c.pop.new.self.items ++ o ∷ []) c.in-Some-entry.is)
    c.loop-entry.invariant.1

pub loop-entry-preserved-in-Some-entry : goal.loop-entry-preserved-in-Some-entry
loop-entry-preserved-in-Some-entry g c =
    let is = c.in-Some.ensures.items ∙ ap (λ o. c.pop.new.self.items ++ o ∷ []) c.in-Some-entry.is
    in (
      popped g.D.References.entry _ _ _ _ c.loop-entry.table.items c.pop.new.self.items
          c.in-Some-entry.reference is c.loop-entry.invariant.0 c.give_back.ensures,
      popped_owned g.D.References.entry _ _ c.loop-entry.table.items c.pop.new.self.items
          c.in-Some-entry.reference is c.loop-entry.invariant.1 c.give_back.ensures,
    )
