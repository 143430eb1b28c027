use Rattle.std.proofs.Common.{sym, ◌∙◌}
use Rattle.eqc_build.proofs.TableLaws.{owned_held}
use Rattle.eqc_build.proofs.table.take_back.Goals as goal

pub give_back-requires : goal.give_back-requires
give_back-requires g c = owned_held g.D.References.entry _ c.args.table.now c.args.s
    c.in-Some.reference c.requires.owned (sym c.take.ensures.before ∙ c.in-Some.is)
