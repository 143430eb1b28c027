use Rattle.std.proofs.Common.{sym, subst}
use Rattle.eqc_core.specs.declared.phase.Phase.{Phase}
use Rattle.eqc_core.specs.Announcing.{IsAnnounced}
use Rattle.eqc_core.proofs.worker.Worker.is_announced.Goals as goal

pub returns : goal.returns
returns c = (
  (λ t. subst (λ (p : Phase). IsAnnounced p) c.phase_at.ensures (c.cell.ensures.some.0 (let s =
      c.is_some.ensures in cc))),
  (λ a. let h = c.cell.ensures.some.1 (subst (λ (p : Phase). IsAnnounced p) (sym c.phase_at.ensures)
      a) in let s = c.is_some.ensures in cc),
)
