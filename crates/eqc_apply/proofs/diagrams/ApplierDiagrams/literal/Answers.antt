use Rattle.eqc_apply.specs.Extending.{entry_in}
use Rattle.eqc_apply.proofs.Answering.{worker_stays, worker_stays_on, turns_stay_on, variables_in}
use Rattle.eqc_apply.proofs.Answering.{on_err, stays_keeps, answer_gains, answer_keeps, answer_full}
use Rattle.eqc_apply.proofs.diagrams.ApplierDiagrams.literal.Goals as goal

pub variable_node-requires : goal.variable_node-requires
variable_node-requires g c = variables_in c.args.self.now.names c.args.var c.requires

pub returns-in_err-x-clause-stop : goal.returns-in_err-x-clause-stop
returns-in_err-x-clause-stop g c = on_err c.from_residual.result (stays_keeps c.args.self.now.names
    c.variable_node.new.self.names c.variable_node.ensures.names)

pub returns-clause-ok : goal.returns-clause-ok
returns-clause-ok g c =
    answer_gains c.args.self.now.names c.variable_node.new.self.names c.refer.new.self
    c.refer.result c.in_ok-x.x c.variable_node.ensures.names _ c.in_ok-x.ensures.ok.1
    c.refer.ensures.ok

pub returns-clause-stop : goal.returns-clause-stop
returns-clause-stop g c = answer_keeps c.args.self.now.names c.variable_node.new.self.names
    c.refer.new.self c.refer.result c.in_ok-x.x c.variable_node.ensures.names c.refer.ensures.still

pub returns-clause-references : goal.returns-clause-references
returns-clause-references g c is =
    answer_full c.args.self.now.names c.variable_node.new.self.names c.refer.new.self c.refer.result
    c.in_ok-x.x c.variable_node.ensures.names _
    (entry_in c.variable_node.new.self.names.worker.known c.in_ok-x.x) c.refer.ensures.full is

pub returns-in_err-x-clause-worker : goal.returns-in_err-x-clause-worker
returns-in_err-x-clause-worker g c = worker_stays c.args.self.now.names
    c.variable_node.new.self.names c.variable_node.ensures.names

pub returns-clause-worker : goal.returns-clause-worker
returns-clause-worker g c = worker_stays_on c.args.self.now.names c.variable_node.new.self.names
    c.refer.new.self c.variable_node.ensures.names c.refer.ensures.worker

pub returns-clause-turns : goal.returns-clause-turns
returns-clause-turns g c = turns_stay_on c.args.self.now.names c.variable_node.new.self.names
    c.refer.new.self c.variable_node.ensures.names c.refer.ensures.turns
