use Rattle.eqc_xag.proofs.GraphLemmas.{extends_itself, extends_along}
use Rattle.eqc_fraig_tests.proofs.Going.{on}
use Rattle.eqc_fraig_tests.proofs.sweeps.parity.Goals as goal

pub loop-variable-init : goal.loop-variable-init
loop-variable-init c = (extends_itself c.args.sweep.now, c.constant-sum.ensures.within)

pub xor-requires-clause-x : goal.xor-requires-clause-x
xor-requires-clause-x c = on c.loop-variable.sum c.loop-variable.sweep c.input.new.self
    c.input.ensures.extends c.loop-variable.invariant.1

pub loop-variable-preserved : goal.loop-variable-preserved
loop-variable-preserved c = (
  extends_along c.args.sweep.now c.loop-variable.sweep c.xor.new.self c.loop-variable.invariant.0
      (extends_along c.loop-variable.sweep c.input.new.self c.xor.new.self c.input.ensures.extends
      c.xor.ensures.extends),
  c.in_ok-sum.ensures.value.within,
)
