use Rattle.eqc_sweep.specs.Team.{AreAnswersIn}
use Rattle.eqc_sweep.proofs.finder.team.ask_others.Given as goal

abbrev pub invariant-questions : goal.invariant-questions
invariant-questions l = AreAnswersIn l.graph l.answers.items
