use Rattle.eqc_apply.proofs.Answering.{worker_stays, worker_trans, extends_stays, stays_keeps}
use Rattle.eqc_apply.proofs.Helping.{keeps_trans}
use Rattle.eqc_plain.proofs.Spending.{spends_trans}
use Rattle.eqc_apply.proofs.applier.Applier.serve.Goals as goal

pub returns-then-served-clause-kept : goal.returns-then-served-clause-kept
returns-then-served-clause-kept g c =
    let n = c.args.self.now.names in let m = c.take_late.new.self.names in
    keeps_trans (stays_keeps n m (extends_stays n m c.take_late.ensures.names))
    c.look_through-served.ensures.kept

pub returns-then-served-clause-worker : goal.returns-then-served-clause-worker
returns-then-served-clause-worker g c =
    let n = c.args.self.now.names in let m = c.take_late.new.self.names in
    worker_trans (worker_stays n m (extends_stays n m c.take_late.ensures.names))
    c.look_through-served.ensures.worker

pub returns-else-served-clause-kept : goal.returns-else-served-clause-kept
returns-else-served-clause-kept g c =
    let n = c.args.self.now.names in
    let m = c.take_late.new.self.names in
    let k = c.look_through-served.new.self.names in
    keeps_trans (keeps_trans (stays_keeps n m (extends_stays n m c.take_late.ensures.names))
    c.look_through-served.ensures.kept)
    (stays_keeps k c.give_up_idle.new.self.names c.give_up_idle.ensures.names)

pub returns-else-served-clause-worker : goal.returns-else-served-clause-worker
returns-else-served-clause-worker g c =
    let n = c.args.self.now.names in
    let m = c.take_late.new.self.names in
    let k = c.look_through-served.new.self.names in
    worker_trans (worker_trans (worker_stays n m (extends_stays n m c.take_late.ensures.names))
    c.look_through-served.ensures.worker)
    (worker_stays k c.give_up_idle.new.self.names c.give_up_idle.ensures.names)

pub returns-then-served-clause-turns : goal.returns-then-served-clause-turns
returns-then-served-clause-turns g c = spends_trans c.take_late.ensures.names.turns
    c.look_through-served.ensures.turns

pub returns-else-served-clause-turns : goal.returns-else-served-clause-turns
returns-else-served-clause-turns g c = spends_trans (spends_trans c.take_late.ensures.names.turns
    c.look_through-served.ensures.turns) c.give_up_idle.ensures.names.turns
