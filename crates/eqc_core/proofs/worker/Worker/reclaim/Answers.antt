use Rattle.std.proofs.Common.{sym, ap, ◌∙◌}
use Rattle.eqc_core.specs.View.{View, nowhere, hand_of}
use Rattle.eqc_core.specs.Moves.{with_held}
use Rattle.eqc_core.specs.Machine.{with_table}
use Rattle.eqc_core.specs.Making.{without_slot}
use Rattle.eqc_core.proofs.worker.Worker.reclaim.Goals as goal

pub remove-requires : goal.remove-requires
remove-requires c = λ e. c.requires
    (sym (ap (λ (v : View). v.hand) (c.in_ok-take_children.ensures.view nowhere)) ∙ e)

pub returns : goal.returns
returns c = record {
  active = c.forget.ensures.active ∙ (c.remove.ensures.active
      ∙ c.in_ok-take_children.ensures.active);
  view = λ z. c.forget.ensures.view z
      ∙ (ap (λ (v : View). with_held v v.held) (c.remove.ensures.view z)
      ∙ ap (λ (v : View). with_held (with_table v (without_slot c.args.x (hand_of v.hand).entries))
      v.held) (c.in_ok-take_children.ensures.view z));
}
