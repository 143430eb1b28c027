use Rattle.eqc_core.proofs.Rooms.{room_after}
use Rattle.eqc_core.specs.View.{view_at}
use Rattle.eqc_core.proofs.Runs.{active_there}
use Rattle.eqc_core.proofs.laws.steps_have_room.Goals as goal

pub returns : goal.returns
returns c = λ s e law on may le. room_after s e.worker (view_at s.views e.worker) e.step law
    (active_there s.views e.worker on) on may le
