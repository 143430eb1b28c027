use Rattle.std.proofs.Common.{sym, ap, ◌∙◌}
use Rattle.eqc_core.specs.View.{view_at}
use Rattle.eqc_core.specs.Words.{times}
use Rattle.eqc_core.specs.State.{State}
use Rattle.eqc_core.proofs.Names.{times-nil}
use Rattle.eqc_core.proofs.state.Core.held.Goals as goal

pub returns-in-None : goal.returns-in-None
returns-in-None c =
    let none = (c.active.ensures.none c.in-None.is).0 in
    sym (ap (λ (t : State). times c.args.x (view_at t.views c.args.worker).held)
    (sym c.self.view_is) ∙ (ap (times c.args.x) none ∙ times-nil c.args.x))
