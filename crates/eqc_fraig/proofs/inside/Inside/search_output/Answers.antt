use Rattle.std.proofs.Common.{◌≡◌, ◌∙◌}
use Rattle.eqc_miter.specs.Asking.{IsQuestionOf}
use Rattle.eqc_miter.proofs.MiterLaws.{answer_for}
use Rattle.eqc_fraig.proofs.inside.Inside.search_output.Goals as goal

pub ask-requires : goal.ask-requires
ask-requires c =
    let is : IsQuestionOf c.self.inside.steps.pair c.question_of.new.sweep c.in-Some.question =
    rw c.in-Some.is at c.in_ok-question.ensures.question in
    rw (c.pair-pair.ensures, c.graph-graph.ensures) is

pub returns-clause-found : goal.returns-clause-found
returns-clause-found c =
    let at : c.in-Some.question.output ≡ c.args.output =
    rw c.in-Some.is at c.in_ok-question.ensures.output in
    answer_for c.pair-pair.result.now c.args.self.now c.args.output c.in_ok-answer.answer
    (c.pair-pair.ensures ∙ c.self.view_is) (c.in_ok-answer.ensures.output
    ∙ at) c.in_ok-answer.ensures.answer
