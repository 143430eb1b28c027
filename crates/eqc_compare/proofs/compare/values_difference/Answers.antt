use Rattle.std.proofs.Common.{◌≡◌, Some, ap, sym, ◌∙◌, get_or}
use Rattle.eqc_build.specs.Building.{reference_of}
use Rattle.eqc_compare.specs.Comparing.{values_differ_at}
use Rattle.eqc_build.specs.Steps.{first_root, second_root}
use Rattle.eqc_cover.proofs.HeldLaws.{gains_as}
use Rattle.eqc_build.proofs.TableLaws.{owned_held}
use Rattle.eqc_build.proofs.StepLaws.{root_first, root_second}
use Rattle.eqc_compare.proofs.DifferenceLaws.{xor_says}
use Rattle.eqc_compare.proofs.compare.values_difference.Goals as goal

pub apply-requires-clause-f : goal.apply-requires-clause-f
apply-requires-clause-f g c = owned_held g.D.References.entry _ c.args.kept.now.table _ _
    c.requires.kept.owned c.get-first.ensures

pub apply-requires-clause-g : goal.apply-requires-clause-g
apply-requires-clause-g g c = owned_held g.D.References.entry _ c.args.kept.now.table _ _
    c.requires.kept.owned c.get.ensures

pub returns-clause-ok : goal.returns-clause-ok
returns-clause-ok g c =
    let s = c.args.steps.now in
    let o = c.args.output in
    let table = c.args.kept.now.table in
    let first : reference_of table (first_root s o) ≡ Some c.get-first.result.now =
    ap (reference_of table) (sym (ap (λ rs. get_or rs 0 0) c.roots-roots.ensures
    ∙ root_first s o))
    ∙ c.get-first.ensures in
    let second : reference_of table (second_root s o) ≡ Some c.get.result.now =
    ap (reference_of table) (sym (ap (λ rs. get_or rs 1 0) c.roots-roots.ensures
    ∙ root_second s o))
    ∙ c.get.ensures in
    gains_as g.D.References.entry _ _ c.apply.result _ (values_differ_at s.pair o)
    (λ a. xor_says g.D.References.entry s o table c.get-first.result.now c.get.result.now a
    c.len-count.ensures.lawful c.requires.output c.requires.kept.built first second)
    c.apply.ensures.ok
