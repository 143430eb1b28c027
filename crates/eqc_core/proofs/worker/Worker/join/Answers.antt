use Rattle.std.proofs.Common.{ap, ◌∙◌}
use Rattle.eqc_core.specs.View.{View}
use Rattle.eqc_core.specs.Moves.{with_held}
use Rattle.eqc_core.proofs.worker.Worker.join.Goals as goal

pub returns : goal.returns
returns c =
    λ y.
    record {
      active = c.forget.ensures.active ∙ (c.in_ok-take_in.ensures y).active;
      view = λ z. c.forget.ensures.view z
          ∙ ap (λ (v : View). with_held v v.held) ((c.in_ok-take_in.ensures y).view z);
    }
