use Rattle.eqc_case.proofs.AnswerProofs.{answer_is_equivalent}
use Rattle.eqc_case.proofs.laws.answer_is_equivalent_where_always_equal.Goals as goal

pub returns : goal.returns
returns c = answer_is_equivalent
