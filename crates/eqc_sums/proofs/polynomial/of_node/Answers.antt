use Rattle.std.proofs.Common.{refl}
use Rattle.eqc_sums.proofs.PolynomialLemmas.{odd_sum}
use Rattle.eqc_sums.proofs.polynomial.of_node.Goals as goal

pub returns : goal.returns
returns c =
    odd_sum c.args.graph.now c.args.literal _ c.in_ok-terms-2.terms.items
    c.in_ok-negated.negated.items c.if-literal-eq0.false refl c.requires c.in_ok-terms-2.ensures
    (λ h has. c.in_ok-negated.ensures c.args.graph.now h c.len.ensures.graph has)
