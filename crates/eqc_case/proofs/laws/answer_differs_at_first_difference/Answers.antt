use Rattle.eqc_case.proofs.AnswerProofs.{answer_differs}
use Rattle.eqc_case.proofs.laws.answer_differs_at_first_difference.Goals as goal

pub returns : goal.returns
returns c = answer_differs
