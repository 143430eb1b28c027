use Rattle.std.proofs.Common.{arith, ap, length}
use Rattle.eqc_compare.proofs.AlikeLaws.{settled_more, settled_all}
use Rattle.eqc_compare.proofs.alike.settled_outputs.Goals as goal

pub loop-output-preserved : goal.loop-output-preserved
loop-output-preserved c =
    rw c.in_ok-push.ensures.items
    (settled_more c.args.pair.now c.loop-output.marks.items c.is_settled.result c.loop-output.output
    c.loop-output.invariant c.is_settled.ensures.none c.is_settled.ensures.chosen)

pub returns : goal.returns
returns c =
    let outputs = rw c.first.ensures at (ap length c.outputs-outputs.ensures) in
    settled_all c.args.pair.now c.loop-output.marks.items c.loop-output.output
    (omega (arith, c.loop-output-test.false, outputs)) c.loop-output.invariant
