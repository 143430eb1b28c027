use Rattle.std.proofs.Common.{◌≡◌, ◌∙◌, sym, ap, Ok}
use Rattle.eqc_blif.specs.Reading.{outcome}
use Rattle.eqc_pair.specs.declared.refused.Side.TheVariants as side
use Rattle.eqc_case.specs.Answer.{MainOf, main_of, second_found}
use Rattle.eqc_case.specs.declared.given.Case.{Case}
use Rattle.eqc_case.specs.Sources.{items_of, given_of}
use Rattle.eqc_case.proofs.TellingLaws.{second_of_two}
use Rattle.eqc_case.proofs.LeftLaws.{warned_tells, told_weaker, told_refusal_tells, found_given}
use Rattle.eqc_check.proofs.decide.Decision.read_second.Goals as goal

pub returns-in-Ok-clause-left : goal.returns-in-Ok-clause-left
returns-in-Ok-clause-left g c =
    let case = c.args.self.now.case.now in
    let given = given_of case in
    let limit = case.options.bytes in
    let m : MainOf = (c.args.first.now.library, c.args.first.now.model) in
    let n : MainOf = (c.in-Ok.second.library, c.in-Ok.second.model) in
    let second : second_found limit given.texts ≡ Ok n =
    second_of_two limit case.names case.first.items (items_of case.second) c.args.second.now
    c.requires.two
    ∙ (ap (λ (x : Case). main_of (outcome limit c.args.second.now) x.names.second 0)
    (sym c.case.view_is) ∙ c.in-Ok.ensures.chosen) in
    warned_tells _ c.flatten_first.result c.warnings_in_two.result c.with_warnings.result _ _
    c.with_warnings.ensures
    (told_weaker _ _ c.flatten_first.result _ _ (λ p. found_given given m n p c.requires.first
    second) c.flatten_first.ensures.left)

pub returns-in-Err-clause-left : goal.returns-in-Err-clause-left
returns-in-Err-clause-left g c = told_refusal_tells _ side.Second c.in-Err.refusal
    c.told_refusal.result _ c.told_refusal.ensures
