use Rattle.std.proofs.Common.{sym, ap}
use Rattle.eqc_sums.proofs.PolynomialLemmas.{negated_sum}
use Rattle.eqc_sums.proofs.polynomial.negated_terms.Goals as goal

pub returns : goal.returns
returns c = λ nodes h graph has.
    negated_sum nodes c.args.is_negated c.args.terms.items c.new-out.result.items
    c.push.new.self.items c.put_all.new.out.items h graph c.if-not-is_negated.false
    c.new-out.ensures.items c.in_ok-push.ensures.items has
    c.as_slice.result.now c.as_slice.ensures.value (c.in_ok-put_all.ensures nodes)
