use Rattle.std.proofs.Common.{◌≡◌, ◌∙◌, sym, ap, Ok}
use Rattle.eqc_case.specs.Answer.{MainOf, one_text, read_texts, main_of, chosen, first_found}
use Rattle.eqc_case.specs.Answer.{second_found}
use Rattle.eqc_case.specs.declared.given.Case.{Case}
use Rattle.eqc_case.specs.Sources.{items_of, given_of}
use Rattle.eqc_case.specs.Warning.{warnings_in_one, warnings_on}
use Rattle.eqc_case.proofs.TellingLaws.{models_tell, one_warned, second_of_one}
use Rattle.eqc_pair.specs.declared.refused.Side.TheVariants as side
use Rattle.eqc_case.proofs.LeftLaws.{warned_tells, told_weaker, told_refusal_tells, found_given}
use Rattle.eqc_check.proofs.decide.Decision.choose_second.Goals as goal

pub returns-in-Ok-clause-tells : goal.returns-in-Ok-clause-tells
returns-in-Ok-clause-tells g c =
    let case = c.args.self.now.case.now in
    let given = given_of case in
    let limit = case.options.bytes in
    let library = c.args.first.now.library in
    let m : MainOf = (library, c.args.first.now.model) in
    let n : MainOf = (library, c.in-Ok.other) in
    let second : second_found limit given.texts ≡ Ok n =
    second_of_one limit case.names case.first.items (items_of case.second)
    (ap items_of c.requires.one)
    ∙ (ap (λ o. main_of o case.names.second 1) c.requires.read
    ∙ (ap (λ (x : Case). chosen library x.names.second 1) (sym c.case.view_is)
    ∙ c.in-Ok.ensures.chosen)) in
    let texts : one_text case.names case.first.items ≡ given.texts =
    sym (ap (λ s. read_texts case.names case.first.items (items_of s)) c.requires.one) in
    let warned : warnings_in_one m n ≡ warnings_on limit given.texts =
    one_warned limit case.names case.first.items m n (ap (first_found limit) texts
    ∙ c.requires.first) (ap (second_found limit) texts ∙ second) ∙ ap (warnings_on limit) texts
    in
    models_tell given m n (warnings_in_one m n) c.flatten_both.result c.warnings_in_one.result
    c.with_warnings.result c.requires.first second warned
    c.flatten_both.ensures.report c.flatten_both.ensures.stop c.warnings_in_one.ensures
    c.with_warnings.ensures

pub returns-in-Ok-clause-left : goal.returns-in-Ok-clause-left
returns-in-Ok-clause-left g c =
    let case = c.args.self.now.case.now in
    let given = given_of case in
    let limit = case.options.bytes in
    let library = c.args.first.now.library in
    let m : MainOf = (library, c.args.first.now.model) in
    let n : MainOf = (library, c.in-Ok.other) in
    let second : second_found limit given.texts ≡ Ok n =
    second_of_one limit case.names case.first.items (items_of case.second)
    (ap items_of c.requires.one)
    ∙ (ap (λ o. main_of o case.names.second 1) c.requires.read
    ∙ (ap (λ (x : Case). chosen library x.names.second 1) (sym c.case.view_is)
    ∙ c.in-Ok.ensures.chosen)) in
    warned_tells _ c.flatten_both.result c.warnings_in_one.result c.with_warnings.result _ _
    c.with_warnings.ensures
    (told_weaker _ _ c.flatten_both.result _ _ (λ p. found_given given m n p c.requires.first
    second) c.flatten_both.ensures.left)

pub returns-in-Err-clause-left : goal.returns-in-Err-clause-left
returns-in-Err-clause-left g c = told_refusal_tells _ side.Second c.in-Err.refusal
    c.told_refusal.result _ c.told_refusal.ensures
