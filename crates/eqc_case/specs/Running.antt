-- A run over readers whose bytes are known, and what it has written.
use Rattle.std.specs.Prelude.{◌≡◌, ◌≢◌, ◌⊎◌, ℕ, List, [], Option, Some, None, IfSome}
use Rattle.std.specs.Option.{option_map}
use Rattle.eqc_report.specs.declared.report.Status.{Status}
use Rattle.eqc_case.specs.declared.given.Given.{Given}
use Rattle.eqc_case.specs.declared.given.Texts.{Texts}
use Rattle.eqc_case.specs.declared.given.Texts.TheVariants.{One, Two}
use Rattle.eqc_report.specs.Report.{ReportOf, refused}
use Rattle.eqc_report.specs.ReportView.{report_of}
use Rattle.eqc_report.specs.declared.report.Report.{Report}
use Rattle.eqc_report.specs.declared.report.Report.TheVariants.{Stopped}
use Rattle.eqc_report.specs.declared.undecided.Undecided.{Undecided}
use Rattle.eqc_report.specs.Written.{IsWritten, IsCutShort}
use Rattle.eqc_report.specs.Options.{options_code}
use Rattle.eqc_report.specs.declared.options.Options.{Options}
use Rattle.eqc_pair.specs.declared.refused.Side.TheVariants as side
use Rattle.eqc_case.specs.Answer.{NamesOf, no_names, TextsOf, one_text, two_texts, GivenOf}
use Rattle.eqc_case.specs.Answer.{texts_answer, Answers}
use Rattle.eqc_case.specs.declared.given.Case.{Case}
use Rattle.eqc_case.specs.Left.{IsNoneTold, IsToldBeside}
use Rattle.eqc_case.specs.Sources.{given_of, AreRead}
use Rattle.eqc_tree.specs.declared.stopping.Stop.TheVariants.{Memory}

abbrev pub two_known : NamesOf → Option (List ℕ) → Option (List ℕ) → Option TextsOf
two_known names None second = None
two_known names (Some first) None = None
two_known names (Some first) (Some second) = Some (two_texts names first second)

-- the texts of readers whose bytes are known, with the names by which their models are chosen
abbrev pub known_texts : {R : Type 0} → NamesOf → (R → Option (List ℕ)) → Texts R → Option TextsOf
known_texts names remaining (One text) = option_map (one_text names) (remaining text)
known_texts names remaining (Two first second) =
    two_known names (remaining first) (remaining second)

-- a text that may be missing
abbrev pub known_some : {R : Type 0} → (R → Option (List ℕ)) → Option R → Option (Option (List ℕ))
known_some remaining None = Some None
known_some remaining (Some text) = option_map Some (remaining text)

abbrev pub all_known : List (List ℕ) → Options → Option TextsOf → Option (Option (List ℕ))
    → Option (Option (List ℕ)) → Option GivenOf
all_known outputs options None order assume = None
all_known outputs options (Some texts) None assume = None
all_known outputs options (Some texts) (Some order) None = None
all_known outputs options (Some texts) (Some order) (Some assume) =
    Some (record {
      texts = texts;
      order = order;
      assume = assume;
      outputs = outputs;
      options =
          options;
    })

-- what a run is given, where the bytes of all its readers are known
abbrev pub known_given : {R : Type 0} → (R → Option (List ℕ)) → Given R → Option GivenOf
known_given remaining given =
    all_known given.outputs given.options (known_texts given.names remaining given.texts)
    (known_some remaining given.order) (known_some remaining given.assume)

-- what a run is given without names of models and outputs
abbrev pub unnamed : {R : Type 0} → Texts R → Option R → Option R → Options → Given R
unnamed texts order assume options = record {
  texts = texts;
  names = no_names;
  order = order;
  assume = assume;
  outputs = [];
  options = options;
}

-- a report answers what a run is given, where that is known
abbrev pub IsReport : {R : Type 0} → (R → Option (List ℕ)) → Given R → ReportOf → Type 0
IsReport remaining given report = IfSome (known_given remaining given)
    (λ known. Answers (texts_answer known) report)

abbrev pub IsReportBehind : {R : Type 0} → Option ℕ → (R → Option (List ℕ)) → Given R → ReportOf
    → Type 0
IsReportBehind (Some code) remaining given report = report ≡ refused side.Options 0 code
IsReportBehind None remaining given report = IsReport remaining given report

-- a report is the refusal of the options, or answers the texts
abbrev pub IsReportFor : {R : Type 0} → (R → Option (List ℕ)) → Given R → ReportOf → Type 0
IsReportFor remaining given report = IsReportBehind (options_code given.options) remaining given
    report

-- a report that answers the run was written
pub record IsAnswered {R : Type 0} (remaining : R → Option (List ℕ)) (given : Given R)
    (old new : Option (List ℕ)) (status : Status) : Type 0 where
  pub report : ReportOf
  pub answers : IsReportFor remaining given report
  pub written : IsWritten report old new status

-- a part of one was
pub record IsCutOff {R : Type 0} (remaining : R → Option (List ℕ)) (given : Given R)
    (old new : Option (List ℕ)) : Type 0 where
  pub report : ReportOf
  pub answers : IsReportFor remaining given report
  pub written : IsCutShort report old new

-- what was read for a report, of which it is, and what is told beside it
pub record IsOfCase {R : Type 0} (remaining : R → Option (List ℕ)) (given : Given R)
    (report : Report) (left : Undecided) (case : Case) : Type 0 where
  pub options : options_code given.options ≡ None
  pub read : AreRead given.options.bytes remaining given case
  pub answers : Answers (texts_answer (given_of case)) (report_of report)
  pub told : IsToldBeside (given_of case) report left

-- where nothing was, the options were refused, or memory for the reading, and nothing is told
pub record IsOfNone {R : Type 0} (given : Given R) (report : Report) (left : Undecided) : Type 0
  where
    pub reason : (options_code given.options ≢ None) ⊎ (report ≡ Stopped Memory)
    pub told : IsNoneTold left

-- what was read for a report is kept with it, if anything was
abbrev pub IsKept : {R : Type 0} → (R → Option (List ℕ)) → Given R → Report → Undecided
    → Option Case → Type 0
IsKept remaining given report left None = IsOfNone given report left
IsKept remaining given report left (Some case) = IsOfCase remaining given report left case
