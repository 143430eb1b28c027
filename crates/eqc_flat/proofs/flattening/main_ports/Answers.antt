use Rattle.std.proofs.Common.{◌∙◌, ap, ℕ, List}
use Rattle.eqc_blif.specs.Netlist.{ModelOf}
use Rattle.eqc_hierarchy.specs.Hierarchy.{model}
use Rattle.eqc_flat.proofs.flattening.main_ports.Goals as goal

pub returns-clause-inputs : goal.returns-clause-inputs
returns-clause-inputs c =
    let top = c.args.hierarchy.now.1 in
    c.inputs.ensures.names ∙ (ap (λ (n : ℕ). (model c.library-library.result.now n).inputs)
    c.top-top.ensures.top ∙ ap (λ (l : List ModelOf). (model l top).inputs)
    c.library-library.ensures)

pub returns-clause-outputs : goal.returns-clause-outputs
returns-clause-outputs c =
    let top = c.args.hierarchy.now.1 in
    c.outputs.ensures.names ∙ (ap (λ (n : ℕ). (model c.library-library.result.now n).outputs)
    c.top-top.ensures.top ∙ ap (λ (l : List ModelOf). (model l top).outputs)
    c.library-library.ensures)

pub returns-clause-inputs_once : goal.returns-clause-inputs_once
returns-clause-inputs_once c = c.inputs.ensures.once

pub returns-clause-outputs_once : goal.returns-clause-outputs_once
returns-clause-outputs_once c = c.outputs.ensures.once
