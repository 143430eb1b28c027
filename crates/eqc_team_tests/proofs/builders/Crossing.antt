-- What crosses threads in the tests
use denote.Param.Send.{IsSend, sendable}
use Rattle.std.proofs.Crossing.{crosses}
use Rattle.eqc_apply.proofs.applier.Applier.TheSendSync.{the_field_send}
use Rattle.eqc_apply.specs.contracts.reference.Ref as Ref
use Rattle.eqc_team_tests.specs.contracts.builders.Builder as Builder

-- a reference to a node goes to any thread
ref_send : IsSend Ref.the_row
ref_send = search (sendable, crosses) depth 20

-- so does a member with its references
pub builder_send : IsSend Builder.the_row
builder_send = search (sendable, crosses, the_field_send, ref_send) depth 20
