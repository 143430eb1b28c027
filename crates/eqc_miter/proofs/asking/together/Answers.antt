use Rattle.std.specs.List.{All}
use Rattle.std.proofs.lemmas.List.Elements.{All-append}
use Rattle.std.proofs.lemmas.Result.{IfOk-at_ok}
use Rattle.eqc_miter.specs.Asking.{IsAnswerOf}
use Rattle.eqc_miter.proofs.asking.together.Goals as goal

pub returns : goal.returns
returns c = λ p first second.
    rw (c.in_ok-append.ensures.items)
    (All-append (IsAnswerOf p) c.in_ok-all.all.items c.in_ok-more.more.items
    (IfOk-at_ok (λ all. All (IsAnswerOf p) all.items) c.in_ok-all.was first)
    (IfOk-at_ok (λ all. All (IsAnswerOf p) all.items) c.in_ok-more.was second))
