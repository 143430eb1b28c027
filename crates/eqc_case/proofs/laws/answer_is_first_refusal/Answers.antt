use Rattle.eqc_case.proofs.AnswerProofs.{answer_is_first_refusal, answer_compares, checks_accept}
use Rattle.eqc_case.proofs.AnswerProofs.{answer_is_no_stop}
use Rattle.eqc_case.proofs.laws.answer_is_first_refusal.Goals as goal

pub returns-clause-refused : goal.returns-clause-refused
returns-clause-refused c = answer_is_first_refusal

pub returns-clause-compared : goal.returns-clause-compared
returns-clause-compared c = answer_compares

pub returns-clause-accepted : goal.returns-clause-accepted
returns-clause-accepted c = checks_accept

pub returns-clause-stopped : goal.returns-clause-stopped
returns-clause-stopped c = answer_is_no_stop
