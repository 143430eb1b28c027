use Rattle.eqc_cover.proofs.MakingLaws.{first_of_turn}
use Rattle.eqc_cover.proofs.making.both.Goals as goal

pub give_back-requires : goal.give_back-requires
give_back-requires g c = first_of_turn g.D.References.entry _ _ _ c.requires
