use Rattle.std.proofs.Common.{◌≡◌}
use Rattle.eqc_apply.specs.Teaming.{forest_of}
use Rattle.eqc_team_tests.proofs.forks.serves.Given as goal

abbrev pub invariant-loop : goal.invariant-loop
invariant-loop g l = forest_of l.builder.member ≡ forest_of l.fn.builder.member
