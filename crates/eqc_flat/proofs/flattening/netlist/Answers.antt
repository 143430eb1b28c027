use Rattle.eqc_flat.proofs.CodeLaws.{accepted}
use Rattle.eqc_flat.proofs.flattening.netlist.Goals as goal

pub returns-clause-accepted : goal.returns-clause-accepted
returns-clause-accepted c =
    let library = c.args.hierarchy.0 in
    let top = c.args.hierarchy.1 in
    let ordered = rw c.in-Ok.is at c.driven_in_order.ensures.ordered in
    accepted library top c.in-Ok.found.1.0 c.in-Ok.found.1.1.items ordered.0 ordered.1
