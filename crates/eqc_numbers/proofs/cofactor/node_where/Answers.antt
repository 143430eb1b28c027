use Rattle.eqc_numbers.proofs.CasesLaws.{true_instead, false_instead}
use Rattle.eqc_numbers.proofs.cofactor.node_where.Goals as goal

pub returns-then-value-clause-value : goal.returns-then-value-clause-value
returns-then-value-clause-value c = true_instead c.args.variable c.in-Input.other c.args.value
    c.args.node c.in-Input.is c.if-other-variable.true c.if-value.true

pub returns-else-value-clause-value : goal.returns-else-value-clause-value
returns-else-value-clause-value c = false_instead c.args.variable c.in-Input.other c.args.value
    c.args.node c.in-Input.is c.if-other-variable.true c.if-value.false
