use Rattle.eqc_numbers.proofs.ChainLemmas.{split_made}
use Rattle.eqc_numbers.proofs.chains.split_by.Goals as goal

pub returns : goal.returns
returns c =
    split_made c.args.graph.now c.args.span c.args.passed c.args.upper c.args.without
    c.negated-spread.result c.in_ok-by.by c.in_ok-by.made c.in_ok-by.lower
    c.requires c.negated-spread.ensures.value (c.in_ok-by.ensures c.args.graph.now
    c.negated-spread.result c.args.passed c.in_ok-one.ensures c.in_ok-other.ensures)
