use Rattle.eqc_literals.proofs.LiteralLaws.{AreChosen}
use Rattle.eqc_literals.proofs.choice.first_of_literal.Given as goal

abbrev pub invariant-loop-k : goal.invariant-loop-k
invariant-loop-k l = AreChosen l.fn.steps.pair l.literals l.firsts.items l.more.items l.k
