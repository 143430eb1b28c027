use Rattle.std.proofs.Common.{◌∙◌, ap, length}
use Rattle.eqc_netlist.specs.Evaluating.{values_of}
use Rattle.eqc_netlist.proofs.EvaluationLaws.{known_outputs, outputs_small}
use Rattle.eqc_netlist.proofs.evaluation.output_values.Goals as goal

pub read-requires : goal.read-requires
read-requires c =
    outputs_small c.args.flat.now c.of.result (length c.deref.result.now)
    c.recall_laws.ensures.lawful
    (c.of.ensures ∙ c.output_signals.ensures.signals) (ap length c.deref.ensures.value
    ∙ c.in_ok-values.ensures.size)

pub returns : goal.returns
returns c =
    rw (c.deref.ensures.value, c.of.ensures, c.output_signals.ensures.signals) at
    c.in_ok-outputs.ensures
    ∙ known_outputs c.args.flat.now (values_of c.args.inputs.now) c.in_ok-values.values.items
    c.recall_laws.ensures.lawful c.in_ok-values.ensures.each
