use Rattle.std.proofs.Common.{◌↔◌, IsTrue, subst}
use Rattle.eqc_core.specs.declared.phase.Phase.{Phase}
use Rattle.eqc_core.specs.Announcing.{LetsAnnounce}
use Rattle.eqc_core.proofs.worker.Worker.lets_announce.Goals as goal

pub returns : goal.returns
returns c = subst (λ (p : Phase). IsTrue c.lets_announce.result ↔ LetsAnnounce p c.args.x)
    c.phase_at.ensures c.lets_announce.ensures
