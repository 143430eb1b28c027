use Rattle.std.specs.List.{All}
use Rattle.eqc_sweep.specs.Team.{IsMerge}
use Rattle.eqc_sweep.proofs.finder.Finder.ask_some.Given as goal

abbrev pub invariant-loop-answered : goal.invariant-loop-answered
invariant-loop-answered o l = All (IsMerge l.graph) l.merges.items
