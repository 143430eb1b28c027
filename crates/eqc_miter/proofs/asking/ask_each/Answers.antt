use Rattle.std.proofs.lemmas.List.Elements.{All-push}
use Rattle.eqc_miter.specs.Asking.{IsAnswerOf}
use Rattle.eqc_miter.proofs.asking.ask_each.Goals as goal

pub loop-question-preserved : goal.loop-question-preserved
loop-question-preserved c =
    rw c.in_ok-push.ensures.items (All-push (IsAnswerOf c.args.subject.now.pair.now)
    c.loop-question.all.items c.in_ok-answer.answer c.loop-question.invariant
    c.in_ok-answer.ensures.answer)
