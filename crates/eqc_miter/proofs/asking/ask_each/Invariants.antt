use Rattle.std.specs.List.{All}
use Rattle.eqc_miter.specs.Asking.{IsAnswerOf}
use Rattle.eqc_miter.proofs.asking.ask_each.Given as goal

abbrev pub invariant-loop-question : goal.invariant-loop-question
invariant-loop-question l = All (IsAnswerOf l.subject.pair.now) l.all.items
