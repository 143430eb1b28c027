use Rattle.eqc_apply.proofs.Answering.{same_worker, bit_small}
use Rattle.eqc_plain.proofs.Spending.{spends_as}
use Rattle.eqc_apply.proofs.diagrams.ApplierReferences.constant.Goals as goal

pub returns-clause-never : goal.returns-clause-never
returns-clause-never c = c.refer.ensures.constant (bit_small c.args.b)

pub returns-clause-worker : goal.returns-clause-worker
returns-clause-worker c = same_worker c.args.self.now.names.worker c.refer.new.self.worker
    c.refer.ensures.worker

pub returns-clause-turns : goal.returns-clause-turns
returns-clause-turns c = spends_as c.args.self.now.names.turns c.refer.new.self.turns
    c.refer.ensures.turns
