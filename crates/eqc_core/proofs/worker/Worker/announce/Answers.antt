use Rattle.std.proofs.Common.{refl, ap, ◌∙◌}
use Rattle.eqc_core.specs.declared.phase.Phase.{Phase}
use Rattle.eqc_core.specs.Announcing.{announced_phase}
use Rattle.eqc_core.specs.Machine.{active_view}
use Rattle.eqc_core.specs.Moves.{with_phase}
use Rattle.eqc_core.proofs.worker.Worker.announce.Goals as goal

pub returns : goal.returns
returns c = record {
  active = refl;
  view =
      λ z. ap (λ (p : Phase). with_phase (active_view z c.args.self.now) c.args.k p)
      (c.announced.ensures ∙ ap announced_phase c.phase_at-phase.ensures);
}
