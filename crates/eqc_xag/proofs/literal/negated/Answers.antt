use Rattle.eqc_xag.proofs.LiteralLemmas.{value_behind, value_before}
use Rattle.eqc_xag.proofs.literal.negated.Goals as goal

pub returns-then-l-eq0-clause-value : goal.returns-then-l-eq0-clause-value
returns-then-l-eq0-clause-value c = λ nodes a. value_behind nodes a c.args.l c.if-l-eq0.true

pub returns-else-l-eq0-clause-value : goal.returns-else-l-eq0-clause-value
returns-else-l-eq0-clause-value c = λ nodes a. value_before nodes a c.args.l c.if-l-eq0.false
