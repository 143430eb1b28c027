use Rattle.eqc_rup.specs.Clauses.{IsSound}
use Rattle.eqc_fraig_tests.proofs.clauses.learned_clauses_are_hints_until_they_are_given_up.Given as goal

abbrev pub invariant-loop-turn : goal.invariant-loop-turn
invariant-loop-turn g l = IsSound l.graph l.clauses
