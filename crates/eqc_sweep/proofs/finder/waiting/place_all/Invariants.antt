use Rattle.eqc_sweep.specs.Team.{ArePlacedIn}
use Rattle.eqc_sweep.proofs.finder.waiting.place_all.Given as goal

abbrev pub invariant-loop-answered : goal.invariant-loop-answered
invariant-loop-answered l = ArePlacedIn l.graph l.answers.items
