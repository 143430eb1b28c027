use Rattle.std.proofs.Common.{◌<◌, ◌∙◌, sym, ap, arith, List, Bool, get_or, length}
use Rattle.std.proofs.lemmas.List.{get_or-map}
use Rattle.eqc_netlist.specs.Graph.{value_of}
use Rattle.eqc_netlist.specs.Evaluating.{values_of}
use Rattle.eqc_report.proofs.FoundLaws.{own_value}
use Rattle.eqc_report.proofs.evaluating.whole_value.Goals as goal

pub returns-in-Ok : goal.returns-in-Ok
returns-in-Ok c =
    let lawful = c.recall_laws.ensures.lawful in
    let own = own_value c.args.flat.now c.args.inputs.now c.args.output lawful c.requires.within in
    let inside : c.args.output < length c.args.flat.now.output_signals =
    omega (arith, c.requires.within, lawful.each_output) in
    let mapped = get_or-map (value_of c.args.flat.now (values_of c.args.inputs.now))
    c.args.flat.now.output_signals c.args.output 0 c.index.result.now inside in
    c.index.ensures ∙ (ap (λ (vs : List Bool). get_or vs c.args.output c.index.result.now)
    c.in-Ok.ensures.values ∙ (mapped ∙ sym own))
