use Rattle.std.proofs.Common.{◌∙◌}
use Rattle.eqc_core.proofs.worker.Worker.first.Goals as goal

pub returns-clause-view : goal.returns-clause-view
returns-clause-view c = λ z e. c.seat.ensures.view z ∙ (rw (c.in_ok-phases.ensures, e))
