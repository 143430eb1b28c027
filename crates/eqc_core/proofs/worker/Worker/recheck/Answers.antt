use Rattle.std.proofs.Common.{refl, ap, ◌∙◌}
use Rattle.eqc_core.specs.declared.phase.Phase.{Phase}
use Rattle.eqc_core.specs.Announcing.{rechecked_phase}
use Rattle.eqc_core.specs.Machine.{active_view}
use Rattle.eqc_core.specs.Moves.{with_phase}
use Rattle.eqc_core.proofs.worker.Worker.recheck.Goals as goal

pub returns : goal.returns
returns c =
    let phase = c.rechecked.ensures ∙ ap (λ (p : Phase). rechecked_phase p c.args.found)
    c.phase_at-phase.ensures in
    record {
      active = refl;
      view =
          λ z. ap (λ (p : Phase). with_phase (active_view z c.args.self.now) c.args.k p) phase;
    }
