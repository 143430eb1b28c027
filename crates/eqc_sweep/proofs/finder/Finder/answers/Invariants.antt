use Rattle.eqc_sweep.specs.Team.{ArePlacedIn}
use Rattle.eqc_sweep.proofs.finder.Finder.answers.Given as goal

abbrev pub invariant-loop-worked : goal.invariant-loop-worked
invariant-loop-worked o l = ArePlacedIn l.graph l.answers.items
