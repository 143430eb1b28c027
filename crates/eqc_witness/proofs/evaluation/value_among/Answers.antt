use Rattle.eqc_witness.proofs.ValueLemmas.{even_among, odd_among}
use Rattle.eqc_witness.proofs.evaluation.value_among.Goals as goal

pub returns-then-literal-eq0 : goal.returns-then-literal-eq0
returns-then-literal-eq0 c = even_among c.args.known.now c.args.literal c.value_at-value.result
    c.if-literal-eq0.true c.value_at-value.ensures

pub returns-else-literal-eq0 : goal.returns-else-literal-eq0
returns-else-literal-eq0 c = odd_among c.args.known.now c.args.literal c.value_at-value.result
    c.if-literal-eq0.false c.value_at-value.ensures
