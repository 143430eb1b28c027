use Rattle.std.proofs.Common.{set, sym, refl}
use Rattle.eqc_core.specs.View.{view_at}
use Rattle.eqc_core.specs.Machine.{state_of}
use Rattle.eqc_core.proofs.Lists.{set_again}
use Rattle.eqc_core.proofs.Stored.{stepped, turn_there}
use Rattle.eqc_core.proofs.machine.Machine.look_box.Goals as goal

pub returns : goal.returns
returns c =
    let m = c.args.self.now in
    let s = state_of m in
    stepped s s.words s.words s.views (set s.views c.args.id (view_at s.views c.args.id)) refl
    (sym (set_again s.views c.args.id (view_at s.views c.args.id) (turn_there m c.args.id
    c.requires)))
