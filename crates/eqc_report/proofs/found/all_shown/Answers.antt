use Rattle.std.proofs.lemmas.List.Elements.{All-head, All-rest}
use Rattle.eqc_compare.specs.declared.outcome.Difference.{Difference}
use Rattle.eqc_report.specs.ReportView.{difference_of}
use Rattle.eqc_report.specs.PairReport.{shown_of, IsFoundOf}
use Rattle.eqc_report.proofs.FoundLaws.{difference_shown, shown_next}
use Rattle.eqc_report.proofs.found.all_shown.Goals as goal

pub loop-output-preserved : goal.loop-output-preserved
loop-output-preserved c =
    let p = c.args.pair.now in
    let found : Difference = c.in-Some.field-0 in
    let step = c.in-Some.ensures.steps.0 in
    let left = c.loop-output.invariant.left in
    let is : IsFoundOf p found = All-head (IsFoundOf p) found c.next.new.self.rest.items
    (rw step at left) in
    record {
      shown =
          shown_next (difference_of p.first.inputs) (shown_of p) c.loop-output.each.items
          c.push.new.self.items c.in_ok-shown.field-0
          c.loop-output.yielded found c.loop-output.invariant.shown c.in_ok-push.ensures.items
          (difference_shown p found (difference_of p.first.inputs c.in_ok-shown.field-0) is
          (rw c.first-in-loop-output.ensures at c.in_ok-shown.ensures.report));
      left = All-rest (IsFoundOf p) found c.next.new.self.rest.items
          c.loop-output.output-iterator.rest.items step left;
    }
