-- The warnings on what is compared: a model that another model of its text contains, where that one
-- isn't compared
-- itself. Then the text holds more than was compared.
use Rattle.std.specs.Prelude.{◌≡◌, ℕ, Bool, not, ◌&&◌, List, [], ◌∷◌, find, Option, None, IfSome}
use Rattle.std.specs.Prelude.{option_map}
use Rattle.std.specs.List.{list_any}
use Rattle.std.specs.Str.{bytes_eq}
use Rattle.eqc_netlist.specs.Names.{is_named}
use Rattle.eqc_blif.specs.Netlist.{ModelOf, InstanceOf}
use Rattle.eqc_hierarchy.specs.Hierarchy.{model}
use Rattle.eqc_report.specs.declared.report.Status.{Status}
use Rattle.eqc_report.specs.declared.report.Status.TheVariants.{Equivalent, Differs, Vacuous}
use Rattle.eqc_report.specs.declared.report.Status.TheVariants.{Refused, Stopped}
use Rattle.eqc_case.specs.declared.given.Given.{Given}
use Rattle.eqc_case.specs.declared.warning.Contained.{Contained}
use Rattle.eqc_case.specs.declared.warning.Warnings.{Warnings}
use Rattle.eqc_case.specs.Answer.{TextsOf, one_text, two_texts, MainOf, IsComparison}
use Rattle.eqc_report.specs.Report.{ReportOf}
use Rattle.eqc_case.specs.AnswerLaws.{first_main, second_main}
use Rattle.eqc_case.specs.Running.{known_texts}

-- the name of a main model
abbrev pub name_of : MainOf → List ℕ
name_of m = (model m.0 m.1).name

-- whether a model has an instance of the model of a name
abbrev pub contains : List ℕ → ModelOf → Bool
contains name m = list_any (λ (i : InstanceOf). bytes_eq name i.model) m.instances

-- whether a model contains that of a name and is none of those that are compared
abbrev pub is_container : List (List ℕ) → List ℕ → ModelOf → Bool
is_container compared name m = contains name m && not (is_named compared m.name)

-- a main model with the first model of its text that contains it and isn't compared
abbrev pub contained : List (List ℕ) → MainOf → Option Contained
contained compared m =
    option_map (λ (c : ModelOf). record { model = name_of m; container = c.name })
    (find (is_container compared (name_of m)) m.0)

-- the warnings on two models of one text, and on models of two texts, which may have so many bytes
-- each
abbrev pub warnings_in_one : MainOf → MainOf → Warnings
warnings_in_one m n = record {
  first = contained (name_of m ∷ name_of n ∷ []) m;
  second = contained (name_of m ∷ name_of n ∷ []) n;
}

abbrev pub warnings_in_two : MainOf → MainOf → Warnings
warnings_in_two m n = record {
  first = contained (name_of m ∷ []) m;
  second =
      contained (name_of n ∷ []) n;
}

abbrev pub warnings_on : ℕ → TextsOf → Warnings
warnings_on limit (one_text names text) = warnings_in_one (first_main limit (one_text names text))
    (second_main limit (one_text names text))
warnings_on limit (two_texts names first second) =
    warnings_in_two (first_main limit (two_texts names first second))
    (second_main limit (two_texts names first second))

abbrev pub no_warnings : Warnings
no_warnings = record { first = None; second = None }

-- where a report on texts whose bytes are known says how netlists compare, its warnings are those
-- on the texts
abbrev pub WarnsOfKnown : {R : Type 0} → (R → Option (List ℕ)) → Given R → ReportOf → Warnings
    → Type 0
WarnsOfKnown remaining given report found = IsComparison report
    → IfSome (known_texts given.names remaining given.texts) (λ known. found
    ≡ warnings_on given.options.bytes known)

-- there are warnings where a verdict is given, and none where nothing was compared or the
-- comparison stopped
abbrev pub warnings_at : Status → Warnings → Warnings
warnings_at Equivalent warnings = warnings
warnings_at Differs warnings = warnings
warnings_at Vacuous warnings = no_warnings
warnings_at Refused warnings = no_warnings
warnings_at Stopped warnings = no_warnings

-- what is warned of after a run with this status, over texts whose bytes may be known
pub record IsWarned {R : Type 0} (remaining : R → Option (List ℕ)) (given : Given R)
    (status : Status) (found : Warnings) : Type 0 where
  pub verdict : warnings_at status found ≡ found
  pub known : IfSome (known_texts given.names remaining given.texts) (λ known. found
      ≡ warnings_at status (warnings_on given.options.bytes known))
