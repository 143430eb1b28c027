use Rattle.std.proofs.Common.{◌≡◌}
use Rattle.eqc_apply.specs.Teaming.{forest_of}
use Rattle.eqc_team_tests.proofs.teams.parity.Given as goal

abbrev pub invariant-loop-variable : goal.invariant-loop-variable
invariant-loop-variable g l = forest_of l.builder.member ≡ forest_of l.fn.builder.member
