use Rattle.std.specs.List.{All}
use Rattle.eqc_sweep.specs.Team.{IsMerge}
use Rattle.eqc_sweep.proofs.finder.Finder.ask_waiting.Given as goal

abbrev pub invariant-candidates : goal.invariant-candidates
invariant-candidates o l = All (IsMerge l.graph) l.merges.items

abbrev pub invariant-chunks : goal.invariant-chunks
invariant-chunks o l = All (IsMerge l.graph) l.merges.items
