use Rattle.std.proofs.Common.{ap, ap₂, sym, ◌∙◌}
use Rattle.eqc_netlist.specs.Cover.{cover_value}
use Rattle.eqc_netlist.specs.Graph.{driven, value_of}
use Rattle.eqc_netlist.specs.Evaluating.{values_of}
use Rattle.eqc_report.specs.Evaluation.{AreRead}
use Rattle.eqc_report.proofs.EvaluationLaws.{read_values, holds_of}
use Rattle.eqc_report.proofs.evaluating.Walk.driven.Goals as goal

pub returns-in-Some : goal.returns-in-Some
returns-in-Some c =
    let f = c.args.flat.now in
    let a = values_of c.args.inputs.now in
    let known = c.args.self.now.values in
    let are = holds_of (λ read. AreRead known c.in-Cover.columns read.items)
    c.in_ok-read-in-Cover.field-0 c.in-Some.read c.in-Some.is c.in_ok-read-in-Cover.ensures in
    let read = read_values f c.args.inputs.now known c.in-Cover.columns c.in-Some.read.items
    c.requires.right are in
    c.cover_value.ensures
    ∙ (ap₂ cover_value c.rows.ensures (c.deref.ensures.value ∙ read)
    ∙ sym (c.steps-steps.ensures.follows a c.args.s c.requires.within
    ∙ ap (driven f.rows a (value_of f a)) (sym c.in-Cover.ensures)))
