use Rattle.std.proofs.Common.{◌+◌, ◌*◌, take, length, arith, subst, List}
use Rattle.std.proofs.lemmas.List.{get_or_default, take_all}
use Rattle.eqc_xag.specs.Graph.{literal_value}
use Rattle.eqc_xag.proofs.GraphLemmas.{extends_itself, extends_along}
use Rattle.eqc_sums.specs.declared.term.Term.{Term}
use Rattle.eqc_sums.specs.Forms.{terms_sum, HasSum}
use Rattle.eqc_sums.proofs.PolynomialLemmas.{multiply_more, multiply_none}
use Rattle.eqc_sums.proofs.polynomial.multiply.Goals as goal

pub loop-term-init : goal.loop-term-init
loop-term-init c = record {
  extends = extends_itself c.args.sweep.now;
  sum = λ h has. multiply_none c.args.sweep.now c.args.factor c.args.first.now c.args.second.now
      c.args.out.now.items h has;
}

pub loop-term-preserved : goal.loop-term-preserved
loop-term-preserved c = record {
  extends = extends_along c.args.sweep.now c.loop-term.sweep c.times.new.sweep
      c.loop-term.invariant.extends c.in_ok-times.ensures.extends;
  sum = λ h has.
      multiply_more c.args.sweep.now c.loop-term.sweep c.times.new.sweep c.args.factor
      c.loop-term.term-index c.args.first.now c.args.second.now c.times.new.out.items _ h
      c.loop-term.invariant.extends c.requires.first c.requires.second c.loop-term-test.true
      (get_or_default c.args.first.now c.loop-term.term-index _ _ c.loop-term-test.true)
      (c.in_ok-times.ensures.sum
      (λ a. h a + c.args.factor * (terms_sum (literal_value c.args.sweep.now a)
      (take c.loop-term.term-index c.args.first.now) * terms_sum (literal_value c.args.sweep.now
      a) c.args.second.now))
      (c.loop-term.invariant.sum h has));
}

pub returns-clause-sum : goal.returns-clause-sum
returns-clause-sum c = λ h has.
    subst (λ (ts : List Term). HasSum c.loop-term.sweep c.loop-term.out.items (λ a. h a
    + c.args.factor * (terms_sum (literal_value c.args.sweep.now a) ts * terms_sum
    (literal_value c.args.sweep.now a) c.args.second.now)))
    (take_all c.loop-term.term-index c.args.first.now (omega (arith, c.loop-term-test.false)))
    (c.loop-term.invariant.sum h has)
