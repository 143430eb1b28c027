use Rattle.std.proofs.Common.{length, arith}
use Rattle.std.proofs.lemmas.List.{get_or_default}
use Rattle.eqc_xag.proofs.GraphLemmas.{extends_itself, extends_along}
use Rattle.eqc_sums.proofs.StepLemmas.{times_more, times_all, times_none}
use Rattle.eqc_sums.proofs.steps.times.Goals as goal

pub loop-term-init : goal.loop-term-init
loop-term-init c = record {
  extends = extends_itself c.args.sweep.now;
  sum =
      λ h has. times_none c.args.sweep.now c.args.by c.args.factor c.args.terms.now
      c.args.out.now.items h has;
}

pub loop-term-preserved : goal.loop-term-preserved
loop-term-preserved c = record {
  extends = extends_along c.args.sweep.now c.loop-term.sweep c.and.new.self
      c.loop-term.invariant.extends c.in_ok-literal.ensures.extends;
  sum = λ h has.
      times_more c.args.sweep.now c.loop-term.sweep c.and.new.self c.args.by c.args.factor
      c.loop-term.term-index c.in_ok-literal.literal c.args.terms.now c.loop-term.out.items
      c.push.new.self.items _ h
      c.loop-term.invariant.extends c.in_ok-literal.ensures.extends c.requires.within c.requires.by
      c.loop-term-test.true (get_or_default c.args.terms.now c.loop-term.term-index _ _
      c.loop-term-test.true) (c.loop-term.invariant.sum h has) c.in_ok-literal.ensures.value
      c.in_ok-push.ensures.items;
}

pub returns-clause-sum : goal.returns-clause-sum
returns-clause-sum c = λ h has.
    times_all c.args.sweep.now c.loop-term.sweep c.args.by c.args.factor c.loop-term.term-index
    c.args.terms.now c.loop-term.out.items h (omega (arith, c.loop-term-test.false))
    (c.loop-term.invariant.sum h has)
