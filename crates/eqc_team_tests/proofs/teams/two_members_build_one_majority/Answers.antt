use denote.Param.Send.{sendable}
use Rattle.eqc_team_tests.proofs.builders.Crossing.{builder_send}
use Rattle.eqc_team_tests.proofs.teams.two_members_build_one_majority.Goals as goal

pub join_mut-one-requires-send-F : goal.join_mut-one-requires-send-F
join_mut-one-requires-send-F g c κs within = search (sendable, builder_send) depth 20
