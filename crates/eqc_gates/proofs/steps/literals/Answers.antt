use Rattle.std.proofs.Common.{arith}
use Rattle.eqc_gates.proofs.EnteringLaws.{entering_begins, entering_literal, uses_ready}
use Rattle.eqc_gates.proofs.steps.literals.Goals as goal

pub loop-step-init : goal.loop-step-init
loop-step-init g c = rw c.in_ok-table.ensures.items (entering_begins c.args.steps.now.pair
    c.args.marks.now c.args.sweep.now)

pub step_literal-requires-clause-ready : goal.step_literal-requires-clause-ready
step_literal-requires-clause-ready g c =
    rw c.deref.ensures.value
    (uses_ready c.args.steps.now c.args.marks.now c.args.sweep.now c.loop-step.sweep
    c.loop-step.table.items c.loop-step.step
    c.len-count.ensures.lawful (omega (arith, c.loop-step-test.true, c.len-count.ensures.count))
    c.requires.closed c.if-not-marks-step.false
    c.loop-step.invariant)

pub loop-step-preserved : goal.loop-step-preserved
loop-step-preserved g c =
    entering_literal c.args.steps.now.pair c.args.marks.now c.args.sweep.now c.loop-step.sweep
    c.step_literal.new.sweep c.loop-step.table.items
    c.push-in-loop-step.new.self.items c.loop-step.step c.in_ok-literal.literal
    c.loop-step.invariant c.in_ok-literal.ensures.extends
    c.in_ok-literal.ensures.value c.in_ok-push-2.ensures.items
