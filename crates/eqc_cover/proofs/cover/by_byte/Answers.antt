use Rattle.std.proofs.Common.{refl}
use Rattle.eqc_tree.specs.Holding.{says}
use Rattle.eqc_cover.proofs.MatchingLaws.{allows-zero, allows-one}
use Rattle.eqc_cover.proofs.MakingLaws.{reference_makes, makes_owned, inverted_makes}
use Rattle.eqc_cover.proofs.cover.by_byte.Goals as goal

pub inverted-requires : goal.inverted-requires
inverted-requires g c =
    makes_owned g.D.References.entry _ _ c.copy-f.result _
    (reference_makes g.D.References.entry _ _ c.copy-f.result _ _ (λ a. refl) c.copy-f.ensures.ok
    c.copy-f.ensures.stop
    c.copy-f.ensures.only)

pub returns-in-48 : goal.returns-in-48
returns-in-48 g c =
    inverted_makes g.D.References.entry _ _ _ c.copy-f.result c.inverted.result
    (says (g.D.References.entry c.args.column.now)) _
    (λ a. allows-zero c.args.byte (says (g.D.References.entry c.args.column.now) a) c.in-48.is)
    (reference_makes g.D.References.entry _ _ c.copy-f.result _ _ (λ a. refl) c.copy-f.ensures.ok
    c.copy-f.ensures.stop
    c.copy-f.ensures.only) c.inverted.ensures

pub returns-in-49 : goal.returns-in-49
returns-in-49 g c =
    reference_makes g.D.References.entry _ _ c.copy.result _ _
    (λ a. allows-one c.args.byte (says (g.D.References.entry c.args.column.now) a) c.in-49.is)
    c.copy.ensures.ok c.copy.ensures.stop
    c.copy.ensures.only
