use Rattle.eqc_case.proofs.AnswerProofs.{answer_is_vacuous}
use Rattle.eqc_case.proofs.laws.answer_is_vacuous_where_nothing_is_allowed.Goals as goal

pub returns : goal.returns
returns c = answer_is_vacuous
