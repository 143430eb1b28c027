use Rattle.std.proofs.Common.{List, sym, subst}
use Rattle.eqc_sums.specs.declared.term.Term.{Term}
use Rattle.eqc_sums.specs.Forms.{IsZeroStep}
use Rattle.eqc_sums.proofs.StepLemmas.{product_is_zero}
use Rattle.eqc_sums.proofs.polynomial.product_expansion.Goals as goal

pub returns-clause-zero : goal.returns-clause-zero
returns-clause-zero c =
    product_is_zero c.expansion.new.sweep c.times.new.sweep c.args.by c.as_slice.result.now
    c.new-out.result.items c.times.new.out.items
    (subst (λ (ts : List Term). IsZeroStep c.expansion.new.sweep ts) (sym c.as_slice.ensures.value)
    c.in_ok-terms.ensures.zero) c.new-out.ensures.items c.in_ok-times.ensures.sum
