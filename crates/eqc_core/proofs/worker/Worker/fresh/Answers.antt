use Rattle.std.proofs.Common.{ap, sym, ◌∙◌}
use Rattle.eqc_core.specs.View.{idle}
use Rattle.eqc_core.proofs.worker.Worker.fresh.Goals as goal

pub returns-clause-view : goal.returns-clause-view
returns-clause-view c = λ z e. c.seat.ensures.view z
    ∙ (rw (c.new.ensures.items, c.in_ok-phases.ensures, e))
