use Rattle.std.proofs.Common.{ap, arith, length, ◌<◌, ◌≡◌, subst}
use Rattle.eqc_netlist.specs.Evaluating.{values_of}
use Rattle.eqc_netlist.specs.Known.{AreKnown}
use Rattle.eqc_netlist.proofs.EvaluationLaws.{known_more, known_all}
use Rattle.eqc_netlist.proofs.evaluation.signal_values.Goals as goal

pub loop-k-preserved : goal.loop-k-preserved
loop-k-preserved c =
    let steps = c.steps-steps.ensures.steps in
    let inside : c.loop-k.k < length c.args.flat.now.steps = omega (arith, ap length steps) in
    let value = rw (steps, c.deref.ensures.value) at c.in_ok-value.ensures in
    rw steps
    (known_more c.args.flat.now (values_of c.args.inputs.now) c.loop-k.values.items c.loop-k.k
    c.in_ok-value.value
    c.steps-steps.ensures.lawful c.steps-steps.ensures.follows inside c.loop-k.invariant value)

pub returns-clause-each : goal.returns-clause-each
returns-clause-each c =
    let at_end : c.loop-k.k ≡ length c.args.flat.now.steps =
    omega (arith, ap length c.steps-steps.ensures.steps) in
    λ s inside.
    known_all c.args.flat.now (values_of c.args.inputs.now) c.loop-k.values.items s
    c.steps-steps.ensures.lawful
    (subst (AreKnown c.args.flat.now (values_of c.args.inputs.now) c.loop-k.values.items) at_end
    c.loop-k.invariant) inside
