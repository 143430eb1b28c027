use Rattle.eqc_miter.proofs.MiterLaws.{answer_at}
use Rattle.eqc_miter.proofs.asking.ask.Goals as goal

pub returns-clause-answer : goal.returns-clause-answer
returns-clause-answer c =
    let q = c.args.question.now in
    answer_at c.args.subject.now.pair.now c.args.subject.now.graph.now q.output q.literal
    c.variables.result.now c.in_ok-witness.witness c.variables.ensures.lawful
    c.variables.ensures.each c.requires.within c.requires.says c.in_ok-witness.ensures.found
