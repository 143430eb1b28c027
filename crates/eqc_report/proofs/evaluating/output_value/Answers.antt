use Rattle.std.proofs.Common.{◌≡◌, ap, sym, ◌∙◌, ℕ, List, get_or}
use Rattle.eqc_netlist.specs.Graph.{value_of}
use Rattle.eqc_netlist.specs.Evaluating.{values_of}
use Rattle.eqc_report.proofs.FoundLaws.{own_value}
use Rattle.eqc_report.proofs.EvaluationLaws.{holds_of}
use Rattle.eqc_report.proofs.evaluating.output_value.Goals as goal

pub returns-in-Some : goal.returns-in-Some
returns-in-Some c =
    let f = c.args.flat.now in
    let a = values_of c.args.inputs.now in
    let is = holds_of (λ b. b ≡ value_of f a (get_or c.output_signals.result.now c.args.output 0))
    c.in_ok-value.field-0 c.in-Some.value c.in-Some.is c.in_ok-value.ensures in
    is ∙ (ap (λ (l : List ℕ). value_of f a (get_or l c.args.output 0))
    c.output_signals.ensures.signals)
    ∙ sym (own_value f c.args.inputs.now c.args.output c.recall_laws.ensures.lawful
    c.requires.within)
