use Rattle.std.proofs.Common.{arith}
use Rattle.eqc_core.proofs.worker.Worker.may_up.Goals as goal

pub returns : goal.returns
returns c =
    let k = c.knows.ensures c.args.sizes in
    let few = c.len.ensures in
    ((λ t. (omega arith, omega arith, omega arith, omega arith, k.0 t)), (λ may. k.1 may.4))
