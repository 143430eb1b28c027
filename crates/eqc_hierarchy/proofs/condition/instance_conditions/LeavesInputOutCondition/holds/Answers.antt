use Rattle.std.proofs.Common.{◌∙◌, ap, not, ℕ, List}
use Rattle.std.specs.List.{list_any}
use Rattle.std.specs.Str.{bytes_eq}
use Rattle.eqc_netlist.specs.Names.{is_named}
use Rattle.eqc_blif.specs.Netlist.{InstanceOf}
use Rattle.eqc_hierarchy.specs.Hierarchy.{model, model_number}
use Rattle.eqc_hierarchy.specs.ModelFaults.{leaves_input_out}
use Rattle.eqc_hierarchy.proofs.ModelFaultLaws.{input_out_is, input_unpaired}
use Rattle.eqc_hierarchy.proofs.condition.instance_conditions.LeavesInputOutCondition.holds.Goals as goal

pub returns-then-len-le-FEW : goal.returns-then-len-le-FEW
returns-then-len-le-FEW c =
    let inputs =
    c.inputs-inputs.ensures
    ∙ ap (λ m. (model c.self.inside.library.now m).inputs)
    (c.model_number-callee.ensures
    ∙ ap (λ (i : InstanceOf). model_number c.self.inside.library.now i.model) c.instance.view_is) in
    let pairs = c.deref.ensures.value ∙ ap (λ (i : InstanceOf). i.pairs) c.instance.view_is in
    c.has_no_pair.ensures
    ∙ (ap (λ (ps : List (List ℕ × List ℕ)). list_any (λ word. not (list_any (λ (pair : List ℕ × List ℕ). bytes_eq word pair.0) ps)) c.inputs-inputs.result.now) pairs
    ∙ (ap (list_any (λ word. not (list_any (λ (pair : List ℕ × List ℕ). bytes_eq word pair.0) c.args.instance.now.pairs))) inputs
    ∙ (input_unpaired c.self.inside.library.now c.args.instance.now
    ∙ ap (λ l. leaves_input_out l c.args.instance.now) c.self.view_is)))

pub returns : goal.returns
returns c =
    let inputs =
    c.inputs-inputs.ensures
    ∙ ap (λ m. (model c.self.inside.library.now m).inputs)
    (c.model_number-callee.ensures
    ∙ ap (λ (i : InstanceOf). model_number c.self.inside.library.now i.model) c.instance.view_is) in
    c.leaves_out.ensures
    ∙ (ap (list_any (λ word. not (is_named c.in_ok-names.names word))) inputs
    ∙ (input_out_is c.self.inside.library.now c.args.instance.now c.in_ok-names.names c.in_ok-names.ensures
    ∙ ap (λ l. leaves_input_out l c.args.instance.now) c.self.view_is))
