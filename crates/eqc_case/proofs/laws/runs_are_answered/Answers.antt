use Rattle.eqc_case.proofs.AnswerProofs.{runs_are_answered}
use Rattle.eqc_case.proofs.laws.runs_are_answered.Goals as goal

pub returns : goal.returns
returns g c = runs_are_answered g.R.Read.remaining
