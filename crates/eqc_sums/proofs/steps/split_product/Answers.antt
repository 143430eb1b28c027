use Rattle.eqc_sums.proofs.StepLemmas.{product_is_zero}
use Rattle.eqc_sums.proofs.steps.split_product.Goals as goal

pub returns-clause-zero : goal.returns-clause-zero
returns-clause-zero c =
    product_is_zero c.split.new.sweep c.times.new.sweep c.args.by c.in_ok-terms.terms
    c.new-out.result.items c.times.new.out.items c.in_ok-terms.ensures.zero
    c.new-out.ensures.items c.in_ok-times.ensures.sum
