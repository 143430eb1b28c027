use Rattle.std.specs.List.{All}
use Rattle.eqc_sweep.specs.Team.{IsAsked, IsTwin}
use Rattle.eqc_sweep.proofs.finder.Finder.equal_among.Given as goal

abbrev pub invariant-loop-k : goal.invariant-loop-k
invariant-loop-k o l = All (IsTwin l.graph) l.equal.items × All (IsAsked l.pairs) l.equal.items
