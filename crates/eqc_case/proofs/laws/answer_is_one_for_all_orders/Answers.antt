use Rattle.eqc_case.proofs.AnswerProofs.{answer_is_one}
use Rattle.eqc_case.proofs.laws.answer_is_one_for_all_orders.Goals as goal

pub returns : goal.returns
returns c = answer_is_one
