use Rattle.std.proofs.Common.{refl}
use Rattle.eqc_sums.proofs.PolynomialLemmas.{expansion_is_zero}
use Rattle.eqc_sums.proofs.polynomial.expansion.Goals as goal

pub returns-clause-zero : goal.returns-clause-zero
returns-clause-zero c =
    expansion_is_zero c.args.sweep.now c.polynomial.new.sweep c.args.literal c.args.factor _
    c.in_ok-terms.terms.items c.as_slice.result.now c.new-out.result.items c.push.new.self.items
    c.put_all.new.out.items
    c.requires c.ranges.factor.fits refl c.in_ok-terms.ensures.extends c.in_ok-terms.ensures.sum
    c.as_slice.ensures.value c.new-out.ensures.items c.in_ok-push.ensures.items
    (c.in_ok-put_all.ensures c.polynomial.new.sweep)
