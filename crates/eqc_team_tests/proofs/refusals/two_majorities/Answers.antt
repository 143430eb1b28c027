use denote.Param.Send.{sendable}
use Rattle.eqc_team_tests.proofs.builders.Crossing.{builder_send}
use Rattle.eqc_team_tests.proofs.refusals.two_majorities.Goals as goal

pub join_mut-requires-send-F : goal.join_mut-requires-send-F
join_mut-requires-send-F g c κs within = search (sendable, builder_send, c.type_bounds.sync-R) depth
    20
