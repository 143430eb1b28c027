-- `stopped 72` in place of a report of which nothing was written.
use Rattle.std.proofs.Common.{ℕ, List, take, refl, inr, Option, Some, None, Result, Ok, Err, IfOk}
use Rattle.std.proofs.Common.{OnErr}
use Rattle.std.specs.Io.KnownBytes.{Appends, Keeps}
use Rattle.eqc_report.specs.declared.report.Status.{Status}
use Rattle.eqc_report.specs.Ends.{AppendsPrefix}
use Rattle.eqc_report.specs.Report.{ReportOf, text, stopped}
use Rattle.eqc_report.specs.ReportView.{IsRefusal}
use Rattle.eqc_report.specs.Written.{IsShown, IsWritten, IsCutShort}

kept_appends : (old mid new : Option (List ℕ)) (bytes : List ℕ) → Keeps old mid
    → Appends mid new bytes → Appends old new bytes
kept_appends None mid new bytes k a = tt
kept_appends (Some x) None new bytes k a = absurd k
kept_appends (Some x) (Some y) None bytes k a = absurd a
kept_appends (Some x) (Some y) (Some z) bytes k a = rw (← k) a

shown_instead : (report : ReportOf) (old mid new : Option (List ℕ)) (status : Status)
    → IsRefusal report → Keeps old mid → IsShown (stopped 72) mid new status
    → IsWritten report old new status
shown_instead report old mid new status r k s = record {
  shown = stopped 72;
  one_of = inr (refl, r);
  written = kept_appends old mid new (text (stopped 72)) k s.written;
  kind = s.kind;
}

cut_instead : (report : ReportOf) (old mid new : Option (List ℕ)) → IsRefusal report → Keeps old mid
    → AppendsPrefix mid new (text (stopped 72)) → IsCutShort report old new
cut_instead report old mid new r k p = record {
  shown = stopped 72;
  one_of = inr (refl, r);
  written = (p.0, p.1, kept_appends old mid new (take p.0 (text (stopped 72))) k p.2);
}

pub written_instead : {E : Type 0} (result : Result Status E) (report : ReportOf)
    (old mid new : Option (List ℕ)) → IsRefusal report → Keeps old mid →
    IfOk result (λ status. IsShown (stopped 72) mid new status)
    → IfOk result (λ status. IsWritten report old new status)
written_instead (Ok status) report old mid new r k s = shown_instead report old mid new status r k s
written_instead (Err fault) report old mid new r k s = tt

pub part_instead : {E : Type 0} (result : Result Status E) (report : ReportOf)
    (old mid new : Option (List ℕ)) → IsRefusal report → Keeps old mid →
    OnErr result (AppendsPrefix mid new (text (stopped 72)))
    → OnErr result (IsCutShort report old new)
part_instead (Ok status) report old mid new r k p = tt
part_instead (Err fault) report old mid new r k p = cut_instead report old mid new r k p
