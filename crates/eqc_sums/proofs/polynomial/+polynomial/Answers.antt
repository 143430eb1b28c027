use Rattle.std.proofs.Common.{ℕ, ◌/◌, Bool, List, refl, sym, subst}
use Rattle.eqc_xag.specs.declared.node.Node.{Node}
use Rattle.eqc_xag.specs.Graph.{literal_value, IsGraph}
use Rattle.eqc_sums.specs.declared.term.Term.{Term}
use Rattle.eqc_sums.specs.Forms.{bit, HasSum}
use Rattle.eqc_sums.specs.Adding.{IsGateOf}
use Rattle.eqc_sums.proofs.PolynomialLemmas.{polynomial_sum}
use Rattle.eqc_sums.proofs.polynomial.+polynomial.Goals as goal

pub returns-clause-sum : goal.returns-clause-sum
returns-clause-sum t c =
    let gate = subst (λ (nodes : List Node). IsGateOf nodes (c.args.literal / 2) c.in-Some.is_and
    c.in-Some.x c.in-Some.y) c.graph.ensures c.in-Some.ensures in
    let graph = subst (λ (nodes : List Node). IsGraph nodes) c.graph-2.ensures c.len-3.ensures.graph
    in
    let first = subst (λ (ts : List Term). HasSum c.polynomial.new.sweep ts
    (λ a. bit (literal_value c.args.sweep.now a c.in-Some.x))) (sym c.as_slice.ensures.value)
    c.in_ok-first.ensures.sum in
    let second = subst (λ (ts : List Term). HasSum c.polynomial-2.new.sweep ts
    (λ a. bit (literal_value c.polynomial.new.sweep a c.in-Some.y)))
    (sym c.as_slice-2.ensures.value) c.in_ok-second.ensures.sum in
    polynomial_sum c.args.sweep.now c.polynomial.new.sweep c.polynomial-2.new.sweep
    c.combine.new.sweep c.args.literal (c.args.literal / 2) c.in-Some.x c.in-Some.y
    c.in-Some.is_and c.is_negated.result
    c.as_slice.result.now c.as_slice-2.result.now c.in_ok-terms-2.terms.items c.in_ok-out.out.items
    refl c.is_negated.ensures gate c.in_ok-first.ensures.extends first
    c.in_ok-second.ensures.extends second (c.in_ok-terms-2.ensures c.combine.new.sweep _
    c.in_ok-terms.ensures.sum)
    (λ h has. c.in_ok-out.ensures c.combine.new.sweep h graph has)
