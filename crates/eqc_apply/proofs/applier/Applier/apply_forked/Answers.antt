use Rattle.std.proofs.Common.{◌∙◌, inr}
use Rattle.eqc_apply.specs.Extending.{entry_in}
use Rattle.eqc_apply.proofs.Answering.{worker_stays, worker_stays_on, turns_stay_on, is_referenced}
use Rattle.eqc_apply.proofs.Answering.{operate_referred, on_err, stays_keeps, answer_gains}
use Rattle.eqc_apply.proofs.Answering.{answer_keeps, answer_full}
use Rattle.eqc_apply.proofs.applier.Applier.apply_forked.Goals as goal

pub answer-requires-clause-f : goal.answer-requires-clause-f
answer-requires-clause-f g c = is_referenced c.args.self.now.names c.args.f.now.at.value
    c.args.f.now.name c.requires.f

pub answer-requires-clause-g : goal.answer-requires-clause-g
answer-requires-clause-g g c = is_referenced c.args.self.now.names c.args.g.now.at.value
    c.args.g.now.name c.requires.g

pub returns-in_err-x-clause-stop : goal.returns-in_err-x-clause-stop
returns-in_err-x-clause-stop g c = on_err c.from_residual.result (stays_keeps c.args.self.now.names
    c.answer.new.self.names c.answer.ensures.names)

pub returns-clause-ok : goal.returns-clause-ok
returns-clause-ok g c =
    answer_gains c.args.self.now.names c.answer.new.self.names c.refer.new.self c.refer.result
    c.in_ok-x.x c.answer.ensures.names _
    (λ a. c.in_ok-x.ensures.ok.1 a ∙ operate_referred c.args.op c.args.self.now.names
    c.args.f.now.at.value c.args.g.now.at.value c.args.f.now.name c.args.g.now.name c.requires.f
    c.requires.g a)
    c.refer.ensures.ok

pub returns-clause-stop : goal.returns-clause-stop
returns-clause-stop g c = answer_keeps c.args.self.now.names c.answer.new.self.names
    c.refer.new.self c.refer.result c.in_ok-x.x c.answer.ensures.names c.refer.ensures.still

pub returns-clause-references : goal.returns-clause-references
returns-clause-references g c is =
    inr
    (answer_full c.args.self.now.names c.answer.new.self.names c.refer.new.self c.refer.result
    c.in_ok-x.x c.answer.ensures.names _
    (entry_in c.answer.new.self.names.worker.known c.in_ok-x.x) c.refer.ensures.full is)

pub returns-in_err-x-clause-worker : goal.returns-in_err-x-clause-worker
returns-in_err-x-clause-worker g c = worker_stays c.args.self.now.names c.answer.new.self.names
    c.answer.ensures.names

pub returns-clause-worker : goal.returns-clause-worker
returns-clause-worker g c = worker_stays_on c.args.self.now.names c.answer.new.self.names
    c.refer.new.self c.answer.ensures.names c.refer.ensures.worker

pub returns-clause-turns : goal.returns-clause-turns
returns-clause-turns g c = turns_stay_on c.args.self.now.names c.answer.new.self.names
    c.refer.new.self c.answer.ensures.names c.refer.ensures.turns
