use Rattle.std.specs.List.{All}
use Rattle.eqc_sweep.specs.Team.{IsAsked, IsTwin}
use Rattle.eqc_sweep.proofs.finder.twins.keep_in_turn.Given as goal

abbrev pub invariant-loop-answered : goal.invariant-loop-answered
invariant-loop-answered l = All (IsTwin l.graph) l.equal.items × All (IsAsked l.pairs) l.equal.items
