-- What was written of a report.
use Rattle.std.specs.Prelude.{◌≡◌, ℕ, List, Option, ◌⊎◌}
use Rattle.std.specs.Io.KnownBytes.{Appends}
use Rattle.eqc_report.specs.declared.report.Status.{Status}
use Rattle.eqc_report.specs.Ends.{AppendsPrefix}
use Rattle.eqc_report.specs.Report.{ReportOf, text, stopped}
use Rattle.eqc_report.specs.ReportView.{status_of, IsRefusal}

-- a report was written whole, and the status is its kind
pub record IsShown (report : ReportOf) (old new : Option (List ℕ)) (status : Status) : Type 0 where
  pub written : Appends old new (text report)
  pub kind : status ≡ status_of report

-- a report, or `stopped 72` in place of a refusal, was written whole, and the status is its kind
pub record IsWritten (report : ReportOf) (old new : Option (List ℕ)) (status : Status) : Type 0
  where
    pub shown : ReportOf
    pub one_of : (shown ≡ report) ⊎ ((shown ≡ stopped 72) × IsRefusal report)
    pub written : Appends old new (text shown)
    pub kind : status ≡ status_of shown

-- a part of it was
pub record IsCutShort (report : ReportOf) (old new : Option (List ℕ)) : Type 0 where
  pub shown : ReportOf
  pub one_of : (shown ≡ report) ⊎ ((shown ≡ stopped 72) × IsRefusal report)
  pub written : AppendsPrefix old new (text shown)
