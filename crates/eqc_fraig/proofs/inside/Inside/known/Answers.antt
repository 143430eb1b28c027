use Rattle.eqc_literals.proofs.LiteralLaws.{tell_equal}
use Rattle.eqc_fraig.proofs.inside.Inside.known.Goals as goal

pub outputs_of_one_literal-requires-clause-tell : goal.outputs_of_one_literal-requires-clause-tell
outputs_of_one_literal-requires-clause-tell c =
    rw c.deref.ensures.value (tell_equal c.self.inside.steps.pair c.self.inside.sweep
    c.self.inside.literals.items c.self.invariant.values)

pub first_of_literal-requires-clause-tell : goal.first_of_literal-requires-clause-tell
first_of_literal-requires-clause-tell c =
    rw c.deref-4.ensures.value (tell_equal c.self.inside.steps.pair c.self.inside.sweep
    c.self.inside.literals.items c.self.invariant.values)
