-- A report of the code as the report that it stands for.
use Rattle.std.specs.Prelude.{List, ℕ, not, map}
use Rattle.std.specs.List.{zip}
use Rattle.eqc_tree.specs.Stopping.{code_of}
use Rattle.eqc_report.specs.Report.{DifferenceOf, ReportOf, equivalent, differs, vacuous, refused}
use Rattle.eqc_report.specs.Report.{stopped}
use Rattle.eqc_report.specs.declared.report.Difference.{Difference}
use Rattle.eqc_report.specs.declared.report.Differences.{Differences}
use Rattle.eqc_report.specs.declared.report.Report.{Report}
use Rattle.eqc_report.specs.declared.report.Report.TheVariants.{Equivalent, Differs, Vacuous}
use Rattle.eqc_report.specs.declared.report.Report.TheVariants.{Refused, Stopped}
use Rattle.eqc_report.specs.declared.report.Status.{Status}
use Rattle.eqc_report.specs.declared.report.Status.TheVariants as status

-- an output that differs, among inputs with these names
abbrev pub difference_of : List (List ℕ) → Difference → DifferenceOf
difference_of inputs d = record {
  output = d.name;
  inputs = zip inputs d.values.items;
  first =
      d.first;
  second = not d.first;
}

abbrev pub differences_of : Differences → List DifferenceOf
differences_of ds = map (difference_of ds.inputs.items) ds.each.items

abbrev pub report_of : Report → ReportOf
report_of Equivalent = equivalent
report_of (Differs differences) = differs (differences_of differences)
report_of Vacuous = vacuous
report_of (Refused refusal) = refused refusal.side refusal.line refusal.code
report_of (Stopped stop) = stopped (code_of stop)

-- the kind of a report
abbrev pub status_of : ReportOf → Status
status_of equivalent = status.Equivalent
status_of (differs differences) = status.Differs
status_of vacuous = status.Vacuous
status_of (refused side line code) = status.Refused
status_of (stopped code) = status.Stopped

-- whether a report is a refusal: the text of no other takes memory
abbrev pub IsRefusal : ReportOf → Type 0
IsRefusal equivalent = ⊥
IsRefusal (differs differences) = ⊥
IsRefusal vacuous = ⊥
IsRefusal (refused side line code) = Unit {0}
IsRefusal (stopped code) = ⊥
