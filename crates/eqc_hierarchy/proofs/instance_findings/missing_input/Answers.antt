use Rattle.std.proofs.Common.{◌≡◌, ◌∙◌, true, sym, ap, subst, get_or, [], ℕ, List, Option}
use Rattle.std.specs.Prelude.{is_some}
use Rattle.std.specs.List.{fold}
use Rattle.std.proofs.lemmas.List.{get_or_default}
use Rattle.eqc_blif.specs.Netlist.{ModelOf, InstanceOf}
use Rattle.eqc_hierarchy.specs.Codes.{formals}
use Rattle.eqc_hierarchy.specs.Hierarchy.{model, model_number, reached}
use Rattle.eqc_netlist.specs.NameSets.{with_name}
use Rattle.eqc_hierarchy.specs.Reaching.{some_instance_in}
use Rattle.eqc_hierarchy.specs.ModelFaults.{leaves_input_out}
use Rattle.eqc_hierarchy.specs.InstanceFinding.{callee, IsMissingInput}
use Rattle.eqc_hierarchy.proofs.FaultLaws.{input_missing, input_known, input_is}
use Rattle.eqc_hierarchy.proofs.instance_findings.missing_input.Goals as goal

pub first_at_fault-requires-clause-some : goal.first_at_fault-requires-clause-some
first_at_fault-requires-clause-some c =
    let P : List ModelOf → Type 0 = λ l. some_instance_in c.args.library.now
    (reached c.args.library.now c.args.top) (leaves_input_out l) ≡ true in
    subst P (sym c.new-condition.ensures) (input_missing c.args.library.now c.args.top
    c.requires.refused)

pub unwrap-k-requires : goal.unwrap-k-requires
unwrap-k-requires c =
    let library = c.args.library.now in
    let i = c.in_ok-found.found.1 in
    let P : List ModelOf → Type 0 = λ l. leaves_input_out l i ≡ true in
    let made : c.in_ok-names.names ≡ fold with_name [] (formals i) = c.in_ok-names.ensures
    ∙ ap (λ (j : InstanceOf). fold with_name [] (formals j)) c.instance-instance.ensures in
    let same : c.inputs-inputs.result.now ≡ (callee library i).inputs =
    c.inputs-inputs.ensures
    ∙ ap (λ (m : ℕ). (model library m).inputs)
    (c.model_number.ensures
    ∙ ap (λ (j : InstanceOf). model_number library j.model) (c.instance.view_is
    ∙ c.instance-instance.ensures)) in
    ap (λ (o : Option ℕ). is_some o) c.first_left_out.ensures
    ∙ input_known library i c.in_ok-names.names c.inputs-inputs.result.now made same
    (subst P c.new-condition.ensures c.in_ok-found.ensures.holds)

pub returns : goal.returns
returns c =
    let library = c.args.library.now in
    let top = c.args.top in
    let i = c.in_ok-found.found.1 in
    let k = c.unwrap-k.result in
    let made : c.in_ok-names.names ≡ fold with_name [] (formals i) = c.in_ok-names.ensures
    ∙ ap (λ (j : InstanceOf). fold with_name [] (formals j)) c.instance-instance.ensures in
    let same : c.inputs-inputs.result.now ≡ (callee library i).inputs =
    c.inputs-inputs.ensures
    ∙ ap (λ (m : ℕ). (model library m).inputs)
    (c.model_number.ensures
    ∙ ap (λ (j : InstanceOf). model_number library j.model) (c.instance.view_is
    ∙ c.instance-instance.ensures)) in
    let known = input_is library i c.in_ok-names.names c.inputs-inputs.result.now k made same
    (sym c.first_left_out.ensures ∙ c.unwrap-k.ensures) in
    let formal : c.as_bytes-formal.result.now ≡ get_or c.inputs-inputs.result.now k [] =
    c.as_bytes-formal.ensures ∙ (c.index-inputs-k.is ∙ get_or_default c.inputs-inputs.result.now k
    c.index-inputs-k.result [] known.0) in
    let Q : List ℕ → Type 0 = λ name. IsMissingInput library top (c.in_ok-found.found, name) in
    let R : ((ℕ × ℕ) × InstanceOf) × List ℕ → Type 0 = λ r. IsMissingInput library top r in
    subst R (sym c.new.ensures) (subst Q (sym formal) (
      c.in_ok-found.ensures.stands,
      known.1,
      known.2,
    ))
