-- Reports with warnings on the models that are chosen.
use Rattle.std.proofs.Common.{◌≡◌, ◌⊎◌, inl, inr, ℕ, Bool, true, not, ◌&&◌, List, map, refl, sym}
use Rattle.std.proofs.Common.{◌∙◌, ap, subst, Option, Some, None, Result, Ok, Err, IfOk, IfErr}
use Rattle.std.specs.declared.alloc.AllocError.{AllocError}
use Rattle.eqc_tree.specs.declared.stopping.Stop.{Stop}
use Rattle.eqc_netlist.specs.declared.refusal.Refusal.{Refusal}
use Rattle.eqc_case.specs.declared.told.Told.{Told}
use Rattle.eqc_report.specs.declared.report.Report.{Report}
use Rattle.eqc_report.specs.declared.report.Report.TheVariants as kind
use Rattle.eqc_pair.specs.declared.refused.Side.{Side}
use Rattle.eqc_pair.specs.declared.refused.Side.TheVariants as side
use Rattle.eqc_case.specs.declared.warning.Warnings.{Warnings}
use Rattle.eqc_report.specs.Report.{ReportOf, refused}
use Rattle.eqc_report.specs.ReportView.{report_of}
use Rattle.std.specs.Borrow.{Bor}
use Rattle.std.specs.List.{list_any}
use Rattle.std.specs.Str.{bytes_eq}
use Rattle.eqc_netlist.specs.Names.{is_named}
use Rattle.eqc_netlist.proofs.NameSetLaws.{any_mapped}
use Rattle.std.specs.Option.{option_copied}
use Rattle.eqc_blif.specs.Netlist.{ModelOf}
use Rattle.eqc_blif.specs.Reading.{outcome}
use Rattle.eqc_hierarchy.specs.Hierarchy.{model_number}
use Rattle.eqc_case.specs.Answer.{NamesOf, MainOf, GivenOf, one_text, two_texts, read_texts}
use Rattle.eqc_case.specs.Answer.{main_of, chosen_number, first_found, second_found, models_answer}
use Rattle.eqc_case.specs.Answer.{found_answer, texts_answer, IsComparison, MayStop, Answers}
use Rattle.eqc_case.specs.Answer.{as_wanted, was_stopped}
use Rattle.eqc_case.specs.Telling.{IsToldRefusal, IsToldWith, WarnsOf, Tells}
use Rattle.eqc_case.specs.Warning.{contains, is_container, warnings_in_one, warnings_in_two}
use Rattle.eqc_case.specs.Warning.{warnings_on}

-- a side that is refused, or want of memory
refusal_tells : (s : Side) (refusal : Refusal) (result : Result Told Stop) (given : GivenOf)
    → IsToldRefusal s refusal result →
    (refusal ≡ record { line = 0; code = 72 })
    ⊎ (refused s refusal.line refusal.code ≡ texts_answer given) → Tells given result
refusal_tells s refusal (Err stop) given h e = subst (MayStop (texts_answer given)) (sym h.1) tt
refusal_tells s refusal (Ok told) given h e = elim e [
  | inl none ↦ absurd (h.0 (ap (λ (x : Refusal). x.code) none))
  | inr is ↦ (
    ap report_of h.1 ∙ is,
    λ compares. absurd (subst IsComparison (ap report_of h.1)
        compares),
  )
]

first_refused : (first second : Result MainOf (ℕ × ℕ)) (line code : ℕ) (given : GivenOf)
    → first ≡ Err (line, code) → refused side.First line code ≡ found_answer first second given
first_refused first second line code given e = sym (ap (λ x. found_answer x second given) e)

second_refused : (first second : Result MainOf (ℕ × ℕ)) (m : MainOf) (line code : ℕ)
    (given : GivenOf) → first ≡ Ok m →
    second ≡ Err (line, code) → refused side.Second line code ≡ found_answer first second given
second_refused first second m line code given e h = sym (ap (λ x. found_answer x second given) e
    ∙ ap (λ x. found_answer (Ok m) x given) h)

both_compared : (first second : Result MainOf (ℕ × ℕ)) (m n : MainOf) (given : GivenOf)
    → first ≡ Ok m → second ≡ Ok n → models_answer m n given ≡ found_answer first second given
both_compared first second m n given e h = sym (ap (λ x. found_answer x second given) e
    ∙ ap (λ x. found_answer (Ok m) x given) h)

pub first_tells : (refusal : Refusal) (result : Result Told Stop) (given : GivenOf)
    → IsToldRefusal side.First refusal result →
    (refusal ≡ record { line = 0; code = 72 }) ⊎ (first_found given.options.bytes given.texts
    ≡ Err (refusal.line, refusal.code)) → Tells given result
first_tells refusal result given h e = refusal_tells side.First refusal result given h (elim e [
  | inl none ↦ inl none
  | inr is ↦ inr (first_refused (first_found given.options.bytes given.texts)
      (second_found given.options.bytes given.texts) refusal.line refusal.code given is)
])

pub second_tells : (refusal : Refusal) (result : Result Told Stop) (given : GivenOf) (m : MainOf)
    → first_found given.options.bytes given.texts ≡ Ok m →
    IsToldRefusal side.Second refusal result →
    (refusal ≡ record { line = 0; code = 72 }) ⊎ (second_found given.options.bytes given.texts
    ≡ Err (refusal.line, refusal.code)) → Tells given result
second_tells refusal result given m there h e = refusal_tells side.Second refusal result given h
    (elim e [
      | inl none ↦ inl none
      | inr is ↦ inr (second_refused (first_found given.options.bytes given.texts)
          (second_found given.options.bytes given.texts) m refusal.line refusal.code given there is)
    ])

-- two models that are compared
both_tell : (given : GivenOf) (wanted : ReportOf) (report : Result Report Stop)
    (warnings : Result Warnings AllocError) (result : Result Told Stop) →
    wanted ≡ texts_answer given → IfOk report (λ r. report_of r ≡ wanted)
    → IfErr report (MayStop wanted) →
    IfOk warnings (λ w. w ≡ warnings_on given.options.bytes given.texts)
    → IsToldWith report warnings result → Tells given result
both_tell given wanted (Ok report) (Ok warnings) result is r s w told =
    subst (Tells given) (sym told) (r ∙ is, λ compares. w)
both_tell given wanted (Ok report) (Err error) result is r s w told =
    subst (Tells given) (sym told) tt
both_tell given wanted (Err stop) warnings result is r s w told =
    subst (Tells given) (sym told) (subst (λ (a : ReportOf). MayStop a stop) is s)

if_alike : {E : Type 0} (result : Result Warnings E) (a b : Warnings) → a ≡ b
    → IfOk result (λ w. w ≡ a) → IfOk result (λ w. w ≡ b)
if_alike (Ok w) a b e h = h ∙ e
if_alike (Err error) a b e h = tt

-- the models are compared, and these are the warnings on them
pub models_tell : (given : GivenOf) (m n : MainOf) (warned : Warnings) (report : Result Report Stop)
    (warnings : Result Warnings AllocError) (result : Result Told Stop) →
    first_found given.options.bytes given.texts ≡ Ok m
    → second_found given.options.bytes given.texts ≡ Ok n
    → warned ≡ warnings_on given.options.bytes given.texts
    → IfOk report (λ r. report_of r ≡ models_answer m n given) →
    IfErr report (MayStop (models_answer m n given)) → IfOk warnings (λ w. w ≡ warned)
    → IsToldWith report warnings result → Tells given result
models_tell given m n warned report warnings result e h same r s w told =
    both_tell given (models_answer m n given) report warnings result
    (both_compared (first_found given.options.bytes given.texts) (second_found given.options.bytes
    given.texts) m n given e h) r s
    (if_alike warnings warned (warnings_on given.options.bytes given.texts) same w) told

-- the warnings on the models of one text, and of two
pub one_warned : (limit : ℕ) (names : NamesOf) (text : List ℕ) (m n : MainOf)
    → first_found limit (one_text names text) ≡ Ok m →
    second_found limit (one_text names text) ≡ Ok n → warnings_in_one m n
    ≡ warnings_on limit (one_text names text)
one_warned limit names text m n e h = sym (rw (e, h) refl)

pub two_warned : (limit : ℕ) (names : NamesOf) (first second : List ℕ) (m n : MainOf)
    → first_found limit (two_texts names first second) ≡ Ok m →
    second_found limit (two_texts names first second) ≡ Ok n → warnings_in_two m n
    ≡ warnings_on limit (two_texts names first second)
two_warned limit names first second m n e h = sym (rw (e, h) refl)

-- what is told answers what is given, and warns of it
told_answers : (given : GivenOf) (told : Told) → Tells given (Ok told)
    → Answers (texts_answer given) (report_of told.report)
told_answers given told tells = rw tells.0 as_wanted

stop_answers : (given : GivenOf) (stop : Stop) (told : Told) → Tells given (Err stop)
    → told.report ≡ kind.Stopped stop → Answers (texts_answer given) (report_of told.report)
stop_answers given stop told tells is = rw is (was_stopped stop tells)

stop_warns : (given : GivenOf) (stop : Stop) (told : Told) → told.report ≡ kind.Stopped stop
    → WarnsOf given (report_of told.report) told.warnings
stop_warns given stop told is =
    λ compares. absurd (subst (λ (r : Report). IsComparison (report_of r)) is compares)

-- and so does the stop that came in its place
pub told_or_stopped : (given : GivenOf) (answer : Result Told Stop) (told : Told)
    → Tells given answer → IfOk answer (λ x. told ≡ x)
    → IfErr answer (λ stop. told.report ≡ kind.Stopped stop)
    → Answers (texts_answer given) (report_of told.report)
told_or_stopped given (Ok x) told tells is _ =
    subst (λ (t : Told). Answers (texts_answer given) (report_of t.report)) (sym is)
    (told_answers given x tells)
told_or_stopped given (Err stop) told tells _ is = stop_answers given stop told tells is

pub warned_or_stopped : (given : GivenOf) (answer : Result Told Stop) (told : Told)
    → Tells given answer → IfOk answer (λ x. told ≡ x)
    → IfErr answer (λ stop. told.report ≡ kind.Stopped stop)
    → WarnsOf given (report_of told.report) told.warnings
warned_or_stopped given (Ok x) told tells is _ =
    subst (λ (t : Told). WarnsOf given (report_of t.report) t.warnings) (sym is) tells.1
warned_or_stopped given (Err stop) told tells _ is = stop_warns given stop told is

-- ---- the choice of a model

pub chosen_named : (models : List ModelOf) (given : Option (Bor (List ℕ))) (name : Bor (List ℕ))
    (place m : ℕ) → given ≡ Some name →
    m ≡ model_number models name.now → m ≡ chosen_number models (option_copied given) place
chosen_named models given name place m e is = is
    ∙ sym (ap (λ (s : Option (Bor (List ℕ))). chosen_number models (option_copied s) place) e)

-- ---- what contains a model

-- whether a model of some name is among those that are compared
pub is_compared : (compared : List (Bor (List ℕ))) (name bytes : List ℕ) (found : Bool) →
    found ≡ list_any (λ (other : Bor (List ℕ)). bytes_eq bytes other.now) compared → bytes ≡ name →
    found ≡ is_named (map (λ (other : Bor (List ℕ)). other.now) compared) name
is_compared compared name bytes found is same =
    is ∙ (sym (any_mapped (bytes_eq bytes) (λ (other : Bor (List ℕ)). other.now) compared)
    ∙ ap (is_named (map (λ (other : Bor (List ℕ)). other.now) compared)) same)

pub contains_alone : (compared : List (List ℕ)) (name : List ℕ) (m : ModelOf) (holds found : Bool)
    → holds ≡ contains name m → holds ≡ true →
    found ≡ is_named compared m.name → not found ≡ is_container compared name m
contains_alone compared name m holds found e is named = ap not named
    ∙ sym (ap (λ (b : Bool). b && not (is_named compared m.name)) (sym e ∙ is))

-- ---- what was read

-- the first model is that of the first text, and so is the second where there is no second text
pub first_of_read : (limit : ℕ) (names : NamesOf) (first : List ℕ) (second : Option (List ℕ)) →
    first_found limit (read_texts names first second) ≡ main_of (outcome limit first) names.first 0
first_of_read limit names first None = refl
first_of_read limit names first (Some second) = refl

pub second_of_one : (limit : ℕ) (names : NamesOf) (first : List ℕ) (second : Option (List ℕ))
    → second ≡ None →
    second_found limit (read_texts names first second) ≡ main_of (outcome limit first) names.second
    1
second_of_one limit names first second e =
    ap (λ (s : Option (List ℕ)). second_found limit (read_texts names first s)) e

pub second_of_two : (limit : ℕ) (names : NamesOf) (first : List ℕ) (second : Option (List ℕ))
    (text : List ℕ) → second ≡ Some text →
    second_found limit (read_texts names first second) ≡ main_of (outcome limit text) names.second 0
second_of_two limit names first second text e =
    ap (λ (s : Option (List ℕ)). second_found limit (read_texts names first s)) e
