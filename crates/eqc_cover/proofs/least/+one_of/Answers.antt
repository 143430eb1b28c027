use Rattle.std.proofs.Common.{◌||◌}
use Rattle.eqc_cover.proofs.MakingLaws.{turns_owned, joined_makes}
use Rattle.eqc_cover.proofs.Blocks.{some_of_halves}
use Rattle.eqc_cover.proofs.least.+one_of.Goals as goal

pub joined-requires : goal.joined-requires
joined-requires g t c = turns_owned g.D.References.entry _ _ _ _ c.one_of-back.result _ _
    c.in_ok-front.ensures c.one_of-back.ensures

pub returns : goal.returns
returns g t c =
    joined_makes g.D.References.entry _ _ _ _ _ c.one_of-back.result c.joined.result _ _ _
    (λ _ x y. x || y)
    (λ a. some_of_halves _ c.args.variables.now _ _ a c.split_at.ensures.front
    c.split_at.ensures.back) c.in_ok-front.ensures
    c.one_of-back.ensures c.joined.ensures
