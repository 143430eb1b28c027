use Rattle.std.proofs.Common.{◌+◌, ◌*◌, take, length, arith, subst, List}
use Rattle.std.proofs.lemmas.List.{get_or_default, take_all}
use Rattle.eqc_xag.specs.Graph.{literal_value}
use Rattle.eqc_sums.specs.declared.term.Term.{Term}
use Rattle.eqc_sums.specs.Forms.{terms_sum, HasSum}
use Rattle.eqc_sums.proofs.PolynomialLemmas.{put_more, put_none}
use Rattle.eqc_sums.proofs.polynomial.put_all.Goals as goal

pub loop-term-init : goal.loop-term-init
loop-term-init c = λ nodes h has within. put_none nodes c.args.factor c.args.terms.now
    c.args.out.now.items h has

pub loop-term-preserved : goal.loop-term-preserved
loop-term-preserved c = λ nodes h has within.
    put_more nodes c.args.factor c.loop-term.term-index c.args.terms.now c.put.new.out.items _ h
    c.loop-term-test.true (get_or_default c.args.terms.now c.loop-term.term-index _ _
    c.loop-term-test.true)
    (c.in_ok-put.ensures nodes (λ a. h a + c.args.factor * terms_sum (literal_value nodes a)
    (take c.loop-term.term-index c.args.terms.now)) (c.loop-term.invariant nodes h has within)
    (within c.loop-term.term-index _ c.loop-term-test.true))

pub returns : goal.returns
returns c = λ nodes h has within.
    subst (λ (ts : List Term). HasSum nodes c.loop-term.out.items (λ a. h a
    + c.args.factor * terms_sum (literal_value nodes a) ts))
    (take_all c.loop-term.term-index c.args.terms.now (omega (arith, c.loop-term-test.false)))
    (c.loop-term.invariant nodes h has within)
