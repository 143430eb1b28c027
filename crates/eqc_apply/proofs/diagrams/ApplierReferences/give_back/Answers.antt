use Rattle.eqc_apply.proofs.Answering.{same_worker}
use Rattle.eqc_plain.proofs.Spending.{spends_as}
use Rattle.eqc_apply.proofs.diagrams.ApplierReferences.give_back.Goals as goal

pub returns-clause-worker : goal.returns-clause-worker
returns-clause-worker c = same_worker c.args.self.now.names.worker c.release.new.self.worker
    c.release.ensures.worker

pub returns-clause-turns : goal.returns-clause-turns
returns-clause-turns c = spends_as c.args.self.now.names.turns c.release.new.self.turns
    c.release.ensures.turns
