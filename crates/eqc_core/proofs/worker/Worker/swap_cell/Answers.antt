use Rattle.std.proofs.Common.{ap, ◌∙◌}
use Rattle.eqc_core.specs.View.{View}
use Rattle.eqc_core.specs.Moves.{with_held}
use Rattle.eqc_core.proofs.worker.Worker.swap_cell.Goals as goal

pub returns : goal.returns
returns c = record {
  active = c.forget.ensures.active ∙ c.in_ok-trade.ensures.active;
  view =
      λ z. c.forget.ensures.view z ∙ ap (λ (v : View). with_held v v.held) (c.in_ok-trade.ensures.view
      z);
}
