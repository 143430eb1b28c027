use Rattle.eqc_guard.proofs.worker.Worker.release.Goals as goal

pub returns-clause-cells : goal.returns-clause-cells
returns-clause-cells c = c.announce.ensures.cells
