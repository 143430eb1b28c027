-- The laws of the answer.
use Rattle.std.proofs.Common.{◌≡◌, ◌≢◌, inl, inr, ℕ, Bool, true, false, List, [], ◌∷◌, ◌++◌, length}
use Rattle.std.proofs.Common.{map, find, get_or, Option, Some, None, IfSome, All, sym, ap, ap₂}
use Rattle.std.proofs.Common.{refl, ◌∙◌, subst, if◌then◌else◌}
use Rattle.std.specs.Prelude.{unwrap_or, is_none}
use Rattle.std.specs.Option.{option_to_list}
use Rattle.std.proofs.lemmas.Bool.{cases_Bool, true≢false}
use Rattle.std.proofs.lemmas.Option.{none-some}
use Rattle.std.proofs.lemmas.List.{length-map}
use Rattle.std.proofs.lemmas.List.Elements.{All-from_get_or, All-get_or, All-nil, All-head}
use Rattle.std.proofs.lemmas.List.Elements.{All-tail, All-cons}
use Rattle.eqc_tree.specs.Assigned.{assignments}
use Rattle.eqc_report.specs.declared.options.Options.{Options}
use Rattle.eqc_compare.specs.Verdict.{is_allowed, allows_none, with_difference, differences, told}
use Rattle.eqc_compare.specs.Verdict.{first_difference}
use Rattle.eqc_compare.specs.Verdict as found
use Rattle.eqc_compare.specs.VerdictLaws.{NeverDiffers}
use Rattle.eqc_report.specs.Report.{DifferenceOf, ReportOf, equivalent, differs, vacuous, refused}
use Rattle.eqc_report.specs.Report.{stopped, shown, differences_report, verdict_report, comparison}
use Rattle.eqc_pair.specs.Matched.{chosen_outputs}
use Rattle.eqc_case.specs.Answer.{TextsOf, GivenOf, inputs_of, outputs_of, netlist_of_model}
use Rattle.eqc_case.specs.Answer.{options_answer, texts_answer, answer, IsAccepting, Answers}
use Rattle.eqc_case.specs.Answer.{as_wanted}
use Rattle.eqc_pair.specs.declared.refused.Refused.{Refused}
use Rattle.eqc_report.specs.Options.{options_code}
use Rattle.eqc_case.specs.Running.{known_texts, known_some, all_known, known_given, IsReport}
use Rattle.eqc_case.specs.Running.{IsReportBehind}
use Rattle.eqc_case.specs.declared.given.Given.{Given}
use Rattle.eqc_pair.specs.declared.refused.Side.TheVariants as side
use Rattle.eqc_case.specs.AnswerLaws.{first_main, second_main, AreInRange, IsAssumptionOver}
use Rattle.eqc_case.specs.AnswerLaws.{IsAccepted, alone, with_others, FitsInputs, AllowsNone}
use Rattle.eqc_case.specs.AnswerLaws.{AllowsSome, IsAlwaysEqual, AreAlwaysEqual, compared_outputs}
use Rattle.eqc_case.specs.AnswerLaws.{IsShown, AreShown, none_left, equal, differing, AreTold}
use Rattle.eqc_case.specs.AnswerLaws.{option_checks, text_checks, order_checks, assumption_checks}
use Rattle.eqc_case.specs.AnswerLaws.{checks, AnswerIsOne, AnswerIsVacuous, AnswerIsEquivalent}
use Rattle.eqc_case.specs.AnswerLaws.{AnswerDiffers, AnswerIsFirstRefusal, AnswerCompares}
use Rattle.eqc_case.specs.AnswerLaws.{ChecksAccept, AnswerIsNoStop, IsAnswerOfRuns}
use Rattle.eqc_compare.proofs.LeastLemmas.{found_least}
use Rattle.eqc_compare.proofs.VerdictLemmas.{never_found, found_is_first, first_is_found}
use Rattle.eqc_compare.proofs.VerdictLemmas.{none_ever_differs, none_allowed, each_forbidden}
use Rattle.eqc_compare.proofs.VerdictLemmas.{first_alone}
use Rattle.eqc_case.proofs.CheckLemmas.{verdict, PassAll, pass_none, pass_both, pass_or_refuse}
use Rattle.eqc_case.proofs.CheckLemmas.{passed_before, all_passed, refused_first, first_refused}
use Rattle.eqc_case.proofs.CheckLemmas.{compared_passed, never_stopped, decided, is_accepting}
use Rattle.eqc_case.proofs.CheckLemmas.{answer_checked}
use Rattle.eqc_case.proofs.AcceptedLemmas.{range_passes, order_passes, accepted_passes}
use Rattle.eqc_case.proofs.AcceptedLemmas.{passed_accepted}
use Rattle.eqc_case.proofs.NamedValueLemmas.{inputs_once, by_position, positions_back, assumed}
use Rattle.eqc_case.proofs.NamedValueLemmas.{AreKnown, allowed_from, allowed_to}
use Rattle.eqc_case.proofs.DifferingLemmas.{first_of, second_of, assumed_of, first_inputs, Fit}
use Rattle.eqc_case.proofs.DifferingLemmas.{never_always, always_never, found_shown, shown_least}
use Rattle.eqc_case.proofs.DifferingLemmas.{shown_is, all_of, all_shown, shown_all}

accepts : (given : GivenOf) → IsAccepting (decided given)
accepts given = is_accepting (first_of given) (second_of given) (found.verdict given.options.every
    (first_of given) (second_of given) (assumed_of given) (compared_outputs given))

pub answer_is_first_refusal : AnswerIsFirstRefusal
answer_is_first_refusal given refusal =
    let all = checks given in
    let is = answer_checked given in (
      λ e. refused_first all (decided given) refusal (accepts given) (sym is ∙ e),
      λ first. is ∙ first_refused all (decided given) refusal first,
    )

-- where all checks pass, the answer is the report behind them
passed_decided : (given : GivenOf) → PassAll (checks given) → answer given ≡ decided given
passed_decided given pass = answer_checked given ∙ all_passed (checks given) (decided given) pass

-- and where it is such a report, all pass
accepting_passed : (given : GivenOf) (report : ReportOf) → IsAccepting report
    → answer given ≡ report → PassAll (checks given)
accepting_passed given report is e = compared_passed (checks given) (decided given)
    (subst IsAccepting (sym e ∙ answer_checked given) is)

pub answer_compares : AnswerCompares
answer_compares given = (
  λ is. accepting_passed given (answer given) is refl,
  λ pass. subst IsAccepting (sym (passed_decided given pass)) (accepts given),
)

pub checks_accept : ChecksAccept
checks_accept given = (passed_accepted given, accepted_passes given)

pub answer_is_no_stop : AnswerIsNoStop
answer_is_no_stop given code e = never_stopped (checks given) (decided given) code (accepts given)
    (sym (answer_checked given) ∙ e)

-- ---- one answer

-- two netlists whose texts pass are accepted with neither order text nor assumption
accepted_alone : (given : GivenOf) → AreInRange given.options
    → PassAll (text_checks given.texts given.outputs given.options.bytes given.options.inputs)
    → IsAccepted (alone given)
accepted_alone given range pass =
    let inputs = inputs_of (first_main given.options.bytes given.texts) in
    let options = option_checks given.options in
    let texts = text_checks given.texts given.outputs given.options.bytes given.options.inputs in
    let orders = order_checks inputs None in
    passed_accepted (alone given)
    (pass_both options (texts ++ orders ++ []) (range_passes given.options range)
    (pass_both texts (orders ++ []) pass (pass_both orders [] (order_passes inputs None tt)
    pass_none)))

-- where the options are in range and the order fits, the texts and the assumption decide
texts_decide : (given : GivenOf) → AreInRange given.options → FitsInputs given
    → answer given ≡ verdict (text_checks given.texts given.outputs given.options.bytes
    given.options.inputs ++ assumption_checks
    (inputs_of (first_main given.options.bytes given.texts)) given.options.bytes
    given.options.inputs given.assume)
    (decided given)
texts_decide given range fits =
    let inputs = inputs_of (first_main given.options.bytes given.texts) in
    let orders = order_checks inputs given.order in
    let texts = text_checks given.texts given.outputs given.options.bytes given.options.inputs in
    let assumptions = assumption_checks inputs given.options.bytes given.options.inputs given.assume
    in
    let rest = decided given in
    answer_checked given
    ∙ passed_before (option_checks given.options) (texts ++ orders ++ assumptions) rest
    (range_passes given.options range)
    ∙ elim (pass_or_refuse texts) [
      | inl pass ↦
          passed_before texts (orders ++ assumptions) rest pass
          ∙ (passed_before orders assumptions rest (order_passes inputs given.order
          (fits (accepted_alone given range pass)))
          ∙ sym (passed_before texts assumptions rest pass))
      | inr refuse ↦ refuse (orders ++ assumptions) rest ∙ sym (refuse assumptions rest)
    ]

-- the answer by how many bytes and inputs are allowed, and by whether each difference is wanted
abbrev deciding : GivenOf → ℕ → ℕ → Bool → ReportOf
deciding given bytes limit every =
    let first = first_main bytes given.texts in
    verdict (text_checks given.texts given.outputs bytes limit
    ++ assumption_checks (inputs_of first) bytes limit given.assume)
    (comparison every (netlist_of_model first) (netlist_of_model (second_main bytes given.texts))
    (assumed bytes given.assume)
    (chosen_outputs given.outputs (outputs_of first)))

pub answer_is_one : AnswerIsOne
answer_is_one given order options range ranges bytes inputs every fits fit =
    texts_decide given range fits
    ∙ (ap (λ b. deciding given b given.options.inputs given.options.every) bytes
    ∙ (ap₂ (λ i e. deciding given options.bytes i e) inputs every
    ∙ sym (texts_decide (with_others given order options) ranges fit)))

-- ---- what a comparison says

-- what a report says of the main models and the assumption, by the values of outputs under
-- assignments of values to names
abbrev SaysFor : Bool → GivenOf → ReportOf → Type 0
SaysFor every given equivalent = AreAlwaysEqual given
SaysFor every given (differs ds) = AreTold every given ds
SaysFor every given vacuous = AllowsNone given
SaysFor every given (refused at line code) = ⊥
SaysFor every given (stopped code) = ⊥

abbrev Says : GivenOf → ReportOf → Type 0
Says given report = SaysFor given.options.every given report

fits : (given : GivenOf) → IsAccepted given → Fit given
fits given accepted = record { same = accepted.inputs; known = by given.assume accepted.assumed }
  where
    by : (assume : Option (List ℕ))
        → IfSome assume (IsAssumptionOver (inputs_of (first_main given.options.bytes given.texts))
        given.options) → AreKnown given.options.bytes (first_main given.options.bytes given.texts)
        assume
    by None h = tt
    by (Some text) h = h.known

-- no assignment is allowed, or one is
none_allows : (given : GivenOf) → Fit given → allows_none (first_of given) (assumed_of given) ≡ true
    → AllowsNone given
none_allows given fit none assigned allowed =
    let m = first_main given.options.bytes given.texts in
    true≢false (sym (allowed_to given.options.bytes m given.assume assigned fit.known allowed)
    ∙ each_forbidden (first_of given) (assumed_of given) none (map assigned (inputs_of m))
    (length-map (inputs_of m) assigned))

allows_nothing : (given : GivenOf) → Fit given → AllowsNone given
    → allows_none (first_of given) (assumed_of given) ≡ true
allows_nothing given fit none =
    let m = first_main given.options.bytes given.texts in
    none_allowed (first_of given) (assumed_of given) (λ a long.
    elim (cases_Bool (is_allowed (first_of given) (assumed_of given) a)) [
      | inr forbidden ↦ forbidden
      | inl is ↦
          let back = positions_back (inputs_of m) a (inputs_once given.options.bytes given.texts)
          long in
          absurd (none (by_position (inputs_of m) a) (allowed_from given.options.bytes m
          given.assume (by_position (inputs_of m) a) fit.known
          (ap (is_allowed (first_of given) (assumed_of given)) back ∙ is)))
    ])

some_allows : (given : GivenOf) → Fit given → allows_none (first_of given) (assumed_of given)
    ≡ false → AllowsSome given
some_allows given fit some = by (find (is_allowed (first_of given) (assumed_of given))
    (assignments (length (first_inputs given)))) refl some
  where
    by : (o : Option (List Bool)) → find (is_allowed (first_of given) (assumed_of given))
        (assignments (length (first_inputs given))) ≡ o → is_none o ≡ false → AllowsSome given
    by None e none = absurd (true≢false none)
    by (Some a) e none =
        let m = first_main given.options.bytes given.texts in
        let least = found_least (length (first_inputs given)) (is_allowed (first_of given)
        (assumed_of given)) a e in
        let back = positions_back (inputs_of m) a (inputs_once given.options.bytes given.texts)
        least.long in (
          by_position (inputs_of m) a,
          allowed_from given.options.bytes m given.assume
              (by_position (inputs_of m) a) fit.known
              (ap (is_allowed (first_of given) (assumed_of given)) back ∙ least.passes),
        )

allows_something : (given : GivenOf) → Fit given → AllowsSome given
    → allows_none (first_of given) (assumed_of given) ≡ false
allows_something given fit some =
    elim (cases_Bool (allows_none (first_of given) (assumed_of given))) [
      | inl none ↦ absurd (none_allows given fit none some.0 some.1)
      | inr is ↦ is
    ]

-- outputs of which none differs are always equal
none_shown : (given : GivenOf) (outputs : List (List ℕ)) → AreShown given outputs []
    → All (IsAlwaysEqual given) outputs
none_shown given _ none_left = All-nil (IsAlwaysEqual given)
none_shown given _ (equal output outputs _ always rest) = All-cons (IsAlwaysEqual given) output
    outputs always (none_shown given outputs rest)

always_shown : (given : GivenOf) (outputs : List (List ℕ)) → All (IsAlwaysEqual given) outputs
    → AreShown given outputs []
always_shown given [] all = none_left
always_shown given (output ∷ outputs) all =
    equal output outputs [] (All-head (IsAlwaysEqual given) output outputs all)
    (always_shown given outputs (All-tail (IsAlwaysEqual given) output outputs all))

-- the differences, the report on those that are told, and the report where none is allowed
abbrev found_by : GivenOf → List (List ℕ × List Bool)
found_by given = differences (first_of given) (second_of given) (assumed_of given)
    (compared_outputs given)

abbrev told_report : Bool → GivenOf → ReportOf
told_report every given = differences_report (map (shown (first_of given) (second_of given))
    (told every (found_by given)))

abbrev by_allowed : GivenOf → Bool → ReportOf
by_allowed given none = verdict_report (first_of given) (second_of given)
    (if none then found.vacuous else found.compared (told given.options.every (found_by given)))

decided_none : (given : GivenOf) → allows_none (first_of given) (assumed_of given) ≡ true
    → decided given ≡ vacuous
decided_none given e = ap (by_allowed given) e

decided_some : (given : GivenOf) → allows_none (first_of given) (assumed_of given) ≡ false
    → decided given ≡ told_report given.options.every given
decided_some given e = ap (by_allowed given) e

-- what the report on differences says
told_says : (every : Bool) (given : GivenOf) → Fit given → AllowsSome given
    → SaysFor every given (told_report every given)
told_says true given fit some = by (all_of given (compared_outputs given))
    (all_shown given (compared_outputs given) fit)
  where
    by : (ds : List DifferenceOf) → AreShown given (compared_outputs given) ds
        → SaysFor true given (differences_report ds)
    by [] shows = record { some = some; each = none_shown given (compared_outputs given) shows }
    by (d ∷ ds) shows = (λ e. let clash : ◌≡◌ {A = List DifferenceOf} (d ∷ ds) [] = e in cc, shows)
told_says false given fit some =
    subst (λ (l : List (List ℕ × List Bool)). SaysFor false given
    (differences_report (map (shown (first_of given) (second_of given)) l)))
    (sym (first_alone (first_of given) (second_of given) (assumed_of given)
    (compared_outputs given)))
    (by (first_difference (first_of given) (second_of given) (assumed_of given)
    (compared_outputs given)) refl)
  where
    by : (d : Option (List ℕ × List Bool)) → first_difference (first_of given) (second_of given)
        (assumed_of given) (compared_outputs given) ≡ d
        → SaysFor false given (differences_report (map (shown (first_of given) (second_of given))
        (option_to_list d)))
    by None e =
        let F = first_of given in
        let never = none_ever_differs F (second_of given) (assumed_of given)
        (compared_outputs given) e in
        record {
          some = some;
          each =
              All-from_get_or (IsAlwaysEqual given) (compared_outputs given) []
              (λ i inside.
              never_always given (get_or (compared_outputs given) i []) fit
              (All-get_or (NeverDiffers F (second_of given) (assumed_of given))
              (compared_outputs given) i [] inside never));
        }
    by (Some d) e =
        let first = found_is_first (first_of given) (second_of given) (assumed_of given)
        (compared_outputs given) d.0 d.1 e in
        record {
          difference = shown (first_of given) (second_of given) d;
          alone = refl;
          position = first.position;
          within = first.within;
          before = λ k h. never_always given (get_or (compared_outputs given) k []) fit
              (first.before k h);
          shown = subst (λ (o : List ℕ). IsShown given o (shown (first_of given) (second_of given)
              d)) (sym first.there) (found_shown given d.0 d.1 fit first.least);
        }

-- the report behind all checks says so
decided_says : (given : GivenOf) → IsAccepted given → Says given (decided given)
decided_says given accepted =
    let fit = fits given accepted in
    elim (cases_Bool (allows_none (first_of given) (assumed_of given))) [
      | inl none ↦ subst (Says given) (sym (decided_none given none)) (none_allows given fit none)
      | inr some ↦ subst (Says given) (sym (decided_some given some)) (told_says given.options.every
          given fit (some_allows given fit some))
    ]

-- and what says so is the report
none_different : (given : GivenOf) (outputs : List (List ℕ)) → Fit given
    → All (IsAlwaysEqual given) outputs → differences (first_of given) (second_of given)
    (assumed_of given) outputs ≡ []
none_different given [] fit all = refl
none_different given (output ∷ outputs) fit all =
    ap (λ l. with_difference output l (differences (first_of given) (second_of given)
    (assumed_of given) outputs))
    (never_found (first_of given) (second_of given) (assumed_of given) output
    (always_never given output fit (All-head (IsAlwaysEqual given) output outputs all)))
    ∙ none_different given outputs fit (All-tail (IsAlwaysEqual given) output outputs all)

told_none : (every : Bool) → told every [] ≡ []
told_none true = refl
told_none false = refl

-- where an output is shown, an assignment is allowed
shown_allows : (given : GivenOf) (outputs : List (List ℕ)) (ds : List DifferenceOf)
    → AreShown given outputs ds → ds ≢ [] → AllowsSome given
shown_allows given _ _ none_left some = absurd (some refl)
shown_allows given _ _ (equal output outputs ds always rest) some =
    shown_allows given outputs ds rest some
shown_allows given _ _ (differing output outputs d ds s rest) some = (s.assigned, s.allowed)

told_is : (every : Bool) (given : GivenOf) (ds : List DifferenceOf) → Fit given
    → AreTold every given ds → AllowsSome given × (told_report every given ≡ differs ds)
told_is true given ds fit h = (
  shown_allows given (compared_outputs given) ds h.1 h.0,
  ap differences_report (shown_all given (compared_outputs given) ds fit h.1)
      ∙ some_report ds h.0,
)
  where
    some_report : (ds : List DifferenceOf) → ds ≢ [] → differences_report ds ≡ differs ds
    some_report [] some = absurd (some refl)
    some_report (d ∷ ds) some = refl
told_is false given ds fit h =
    let output = get_or (compared_outputs given) h.position [] in
    let s = h.shown in
    let a : List Bool = map s.assigned (first_inputs given) in
    let first = first_is_found (first_of given) (second_of given) (assumed_of given)
    (compared_outputs given) output a (record {
      position = h.position;
      within = h.within;
      there = refl;
      before = λ k below. always_never given (get_or (compared_outputs given) k []) fit
          (h.before k below);
      least = shown_least given output h.difference fit s;
    }) in
    let alone : told false (found_by given) ≡ (output, a) ∷ [] =
    first_alone (first_of given) (second_of given) (assumed_of given) (compared_outputs given)
    ∙ ap option_to_list first in (
      (s.assigned, s.allowed),
      ap (λ l. differences_report (map (shown (first_of given) (second_of given)) l)) alone
          ∙ (ap (λ d. differs (d ∷ [])) (shown_is given output h.difference fit s)
          ∙ ap differs (sym h.alone)),
    )

-- where the answer is behind all checks, two netlists are accepted, and it says so
answer_says : (given : GivenOf) (report : ReportOf) → IsAccepting report → answer given ≡ report
    → IsAccepted given × Says given report
answer_says given report is e =
    let pass = accepting_passed given report is e in
    let accepted = passed_accepted given pass in (
      accepted,
      subst (Says given) (sym (passed_decided given pass)
          ∙ e) (decided_says given accepted),
    )

pub answer_is_vacuous : AnswerIsVacuous
answer_is_vacuous given = (
  λ e. answer_says given vacuous tt e,
  λ h. passed_decided given (accepted_passes given h.0)
      ∙ decided_none given (allows_nothing given (fits given h.0) h.1),
)

pub answer_is_equivalent : AnswerIsEquivalent
answer_is_equivalent given = (
  λ e. answer_says given equivalent tt e,
  λ h.
      let fit = fits given h.0 in
      passed_decided given (accepted_passes given h.0)
      ∙ (decided_some given (allows_something given fit h.1.some)
      ∙ ap (λ l. differences_report (map (shown (first_of given) (second_of given)) l))
      (ap (told given.options.every) (none_different given (compared_outputs given) fit h.1.each)
      ∙ told_none given.options.every)),
)

pub answer_differs : AnswerDiffers
answer_differs given ds = (
  λ e. answer_says given (differs ds) tt e,
  λ h.
      let fit = fits given h.0 in
      let is = told_is given.options.every given ds fit h.1 in
      passed_decided given (accepted_passes given h.0)
      ∙ (decided_some given (allows_something given fit is.0) ∙ is.1),
)

-- ---- runs

-- a report on what is known
report_answers : {R : Type 0} (remaining : R → Option (List ℕ)) (given : Given R) (known : GivenOf)
    (report : ReportOf) →
    known_given remaining given ≡ Some known → IsReport remaining given report
    → Answers (texts_answer known) report
report_answers remaining given known report e is =
    subst (λ (k : Option GivenOf). IfSome k (λ t. Answers (texts_answer t) report)) e is

-- what is known has the options that were given
options_known : {R : Type 0} (remaining : R → Option (List ℕ)) (given : Given R) (known : GivenOf)
    → known_given remaining given ≡ Some known → given.options ≡ known.options
options_known remaining given known e = by (known_texts given.names remaining given.texts)
    (known_some remaining given.order) (known_some remaining given.assume) e
  where
    by : (texts : Option TextsOf) (order assume : Option (Option (List ℕ)))
        → all_known given.outputs given.options texts order assume ≡ Some known
        → given.options ≡ known.options
    by None order assume e = absurd (none-some known e)
    by (Some texts) None assume e = absurd (none-some known e)
    by (Some texts) (Some order) None e = absurd (none-some known e)
    by (Some texts) (Some order) (Some assume) e =
        ap (λ (k : Option GivenOf). (unwrap_or k known).options) e

pub runs_are_answered : {R : Type 0} (remaining : R → Option (List ℕ)) → IsAnswerOfRuns remaining
runs_are_answered {R} remaining given known report e is =
    subst (λ (o : Options). Answers (options_answer (options_code o) (texts_answer known)) report)
    (options_known remaining given known e) (by (options_code given.options) is)
  where
    by : (code : Option ℕ) → IsReportBehind code remaining given report
        → Answers (options_answer code (texts_answer known)) report
    by None is = report_answers remaining given known report e is
    by (Some code) is = subst (Answers (refused side.Options 0 code)) (sym is) as_wanted
