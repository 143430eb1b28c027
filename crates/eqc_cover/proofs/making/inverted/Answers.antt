use Rattle.std.proofs.Common.{refl}
use Rattle.eqc_cover.proofs.MakingLaws.{reference_makes, made_in_turn, inverts}
use Rattle.eqc_cover.proofs.making.inverted.Goals as goal

pub joined-requires : goal.joined-requires
joined-requires g c =
    made_in_turn g.D.References.entry _ _ _ _ c.constant-all.result _ c.in_ok-f.was c.requires
    (reference_makes g.D.References.entry _ _ c.constant-all.result _ _ (λ a. refl)
    c.constant-all.ensures.ok
    c.constant-all.ensures.stop c.constant-all.ensures.only)

pub returns : goal.returns
returns g c =
    inverts g.D.References.entry _ _ _ _ _ c.constant-all.result c.joined.result c.in_ok-f.was
    (reference_makes g.D.References.entry _ _ c.constant-all.result _ _ (λ a. refl)
    c.constant-all.ensures.ok
    c.constant-all.ensures.stop c.constant-all.ensures.only) c.joined.ensures
