use Rattle.eqc_sums.proofs.PolynomialLemmas.{merged_sum}
use Rattle.eqc_sums.proofs.polynomial.merged.Goals as goal

pub returns : goal.returns
returns c = λ nodes f has.
    merged_sum nodes c.args.terms.items c.as_slice.result.now c.new-out.result.items
    c.put_all.new.out.items f c.as_slice.ensures.value c.new-out.ensures.items has
    (c.in_ok-put_all.ensures nodes)
