use Rattle.eqc_gates.proofs.LiteralLaws.{or_value}
use Rattle.eqc_gates.proofs.gate.or.Goals as goal

pub returns-clause-value : goal.returns-clause-value
returns-clause-value c =
    or_value c.args.sweep.now c.and.new.self c.args.x c.args.y c.negated.result c.negated-2.result
    c.in_ok-neither.neither c.negated-3.result
    (record { node = c.negated.ensures.node; value = c.negated.ensures.value })
    (record { node = c.negated-2.ensures.node; value = c.negated-2.ensures.value })
    (record { node = c.negated-3.ensures.node; value = c.negated-3.ensures.value })
    c.in_ok-neither.ensures.value
