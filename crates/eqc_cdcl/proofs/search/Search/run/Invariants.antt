use Rattle.eqc_rup.specs.Clauses.{IsSound}
use Rattle.eqc_cdcl.proofs.search.Search.run.Given as goal

-- the store is sound
abbrev pub invariant-rounds : goal.invariant-rounds
invariant-rounds l = IsSound l.graph l.self
