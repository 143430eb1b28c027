-- Reports with warnings.
use Rattle.std.specs.Prelude.{◌≡◌, Result, Ok, Err}
use Rattle.eqc_netlist.specs.declared.refusal.Refusal.{Refusal}
use Rattle.eqc_case.specs.declared.told.Told.{Told}
use Rattle.eqc_report.specs.declared.report.Report.{Report}
use Rattle.eqc_pair.specs.declared.refused.Side.{Side}
use Rattle.eqc_case.specs.declared.warning.Warnings.{Warnings}
use Rattle.eqc_case.specs.Answer.{GivenOf, texts_answer, IsComparison, MayStop}
use Rattle.eqc_case.specs.Refusing.{IsRefused}
use Rattle.eqc_report.specs.Report.{ReportOf}
use Rattle.eqc_report.specs.ReportView.{report_of}
use Rattle.eqc_case.specs.Warning.{warnings_on}
use Rattle.eqc_tree.specs.declared.stopping.Stop.{Stop}
use Rattle.eqc_tree.specs.declared.stopping.Stop.TheVariants.{Memory}
use Rattle.std.specs.declared.alloc.AllocError.{AllocError}

-- a refusal as a report, whatever its warnings
abbrev pub IsToldRefusal : Side → Refusal → Result Told Stop → Type 0
IsToldRefusal side refusal (Ok told) = IsRefused side refusal (Ok told.report)
IsToldRefusal side refusal (Err stop) = IsRefused side refusal (Err stop)

-- a report with warnings
abbrev pub IsToldWith : Result Report Stop → Result Warnings AllocError → Result Told Stop → Type 0
IsToldWith (Ok report) (Ok warnings) result = result ≡ Ok (record {
  report = report;
  warnings =
      warnings;
})
IsToldWith (Ok report) (Err error) result = result ≡ Err Memory
IsToldWith (Err stop) warnings result = result ≡ Err stop

-- where a report says how netlists compare, its warnings are those on the texts
abbrev pub WarnsOf : GivenOf → ReportOf → Warnings → Type 0
WarnsOf given report warnings = IsComparison report → warnings ≡ warnings_on given.options.bytes
    given.texts

-- the answer on the texts with its warnings, or why the run was stopped
abbrev pub Tells : GivenOf → Result Told Stop → Type 0
Tells given (Ok told) = (report_of told.report ≡ texts_answer given)
    × WarnsOf given (report_of told.report) told.warnings
Tells given (Err stop) = MayStop (texts_answer given) stop
