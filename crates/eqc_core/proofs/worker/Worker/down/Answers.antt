use Rattle.std.proofs.Common.{ap, ◌∙◌}
use Rattle.eqc_core.specs.Moves.{with_held}
use Rattle.eqc_core.specs.Machine.{active_view}
use Rattle.eqc_core.proofs.worker.Worker.down.Goals as goal

pub returns : goal.returns
returns c = record {
  active = c.forget.ensures.active;
  view = λ z. c.forget.ensures.view z
      ∙ ap (with_held (active_view z c.args.self.now)) c.remove_first.ensures;
}
