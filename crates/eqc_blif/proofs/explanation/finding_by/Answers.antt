use Rattle.std.proofs.Common.{◌≡◌, ◌∙◌, ap}
use Rattle.std.proofs.lemmas.Result.{IfOk-weaker}
use Rattle.eqc_blif.specs.Kind.{kind_of, kind_of_line}
use Rattle.eqc_blif.proofs.FindingLemmas.{explained}
use Rattle.eqc_blif.proofs.explanation.finding_by.Goals as goal

pub returns : goal.returns
returns c limit refused =
    let line = c.go_to_line.new.line.items in
    let kind : c.kind_of.result ≡ kind_of_line line = c.kind_of.ensures
    ∙ (ap kind_of c.split_first.ensures.first ∙ ap kind_of_line c.deref.ensures.value) in
    IfOk-weaker _ _ _
    (λ found holds.
    explained limit c.args.text.now c.args.refusal.line c.args.refusal.code c.go_to_line.new.reader
    _ line c.deref-2.result.now
    c.kind_of.result found refused c.in_ok-go_to_line.ensures.there c.deref-2.ensures.value kind
    c.in_ok-open_before.ensures holds) c.line_finding.ensures
