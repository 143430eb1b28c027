use denote.Param.Send.{sendable}
use Rattle.eqc_team_tests.proofs.builders.Crossing.{builder_send}
use Rattle.eqc_team_tests.proofs.teams.a_member_takes_in_what_another_one_built.Goals as goal

pub join_mut-all-requires-send-F : goal.join_mut-all-requires-send-F
join_mut-all-requires-send-F g c κs within = search (sendable, builder_send) depth 20
