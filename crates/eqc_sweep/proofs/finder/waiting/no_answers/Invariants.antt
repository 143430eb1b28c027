use Rattle.eqc_sweep.specs.Team.{ArePlacedIn}
use Rattle.eqc_sweep.proofs.finder.waiting.no_answers.Given as goal

abbrev pub invariant-questions : goal.invariant-questions
invariant-questions l = ArePlacedIn l._graph l.answers.items
