use Rattle.eqc_rup.specs.Clauses.{IsSound}
use Rattle.eqc_cdcl.proofs.search.Search.go_on.Given as goal

-- the store is sound
abbrev pub invariant-dropped : goal.invariant-dropped
invariant-dropped l = IsSound l.graph l.self-inside.store
