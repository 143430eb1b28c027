use Rattle.std.specs.List.{All}
use Rattle.eqc_sweep.specs.Team.{IsAsked, IsTwin}
use Rattle.eqc_sweep.proofs.finder.Finder.equal_in_turn.Given as goal

abbrev pub invariant-turns : goal.invariant-turns
invariant-turns o l = All (IsTwin l.graph) l.equal.items × All (IsAsked l.pairs) l.equal.items
