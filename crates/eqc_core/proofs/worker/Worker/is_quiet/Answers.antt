use Rattle.std.proofs.Common.{◌↔◌, IsTrue, subst}
use Rattle.eqc_core.specs.declared.phase.Phase.{Phase}
use Rattle.eqc_core.specs.Moves.{IsQuiet}
use Rattle.eqc_core.proofs.worker.Worker.is_quiet.Goals as goal

pub returns : goal.returns
returns c = subst (λ (p : Phase). IsTrue c.is_quiet.result ↔ IsQuiet p) c.phase_at.ensures
    c.is_quiet.ensures
