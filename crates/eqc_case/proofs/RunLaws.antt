-- Runs over readers and a writer whose bytes are known.
use Rattle.std.proofs.Common.{◌≡◌, ◌⊎◌, inl, inr, ℕ, suc, true, not, if◌then◌else◌, ap₂, List}
use Rattle.std.proofs.Common.{length, take, refl, ◌∙◌, sym, ap, arith, subst, Option, Some, None}
use Rattle.std.proofs.Common.{Ok, Err, IfSome, Result}
use Rattle.std.proofs.lemmas.Bool.{cases_lt, lt-ltb}
use Rattle.std.proofs.lemmas.List.{take_all, length-take-le}
use Rattle.std.specs.Option.{option_map}
use Rattle.std.proofs.lemmas.Option.{none-some}
use Rattle.eqc_tree.specs.declared.stopping.Stop.TheVariants.{Memory}
use Rattle.eqc_tree.specs.Stopping.{code_of}
use Rattle.eqc_blif.specs.Reading.{outcome, is_too_long}
use Rattle.eqc_report.specs.declared.report.Status.{Status}
use Rattle.eqc_case.specs.declared.given.Given.{Given}
use Rattle.eqc_case.specs.declared.given.Case.{Case}
use Rattle.eqc_case.specs.declared.given.Texts.{Texts}
use Rattle.eqc_case.specs.declared.given.Texts.TheVariants.{One, Two}
use Rattle.eqc_case.specs.Reading.{bytes_read}
use Rattle.eqc_hierarchy.specs.Codes.{flat_code}
use Rattle.eqc_pair.specs.Matched.{has_all, same_names, order_code}
use Rattle.eqc_pair.specs.declared.refused.Side.TheVariants as side
use Rattle.eqc_compare.specs.Verdict.{NetlistOf}
use Rattle.eqc_report.specs.declared.options.Options.{Options}
use Rattle.eqc_report.specs.Report.{ReportOf, text, equivalent, differs, vacuous, refused, stopped}
use Rattle.eqc_case.specs.Answer.{NamesOf, MainOf, GivenOf, inputs_of, TextsOf, one_text, two_texts}
use Rattle.eqc_case.specs.Answer.{main_of, first_found, second_found, outputs_of, netlist_of_model}
use Rattle.eqc_case.specs.Answer.{assumption_answer, assumed_answer, or_code, code_of_order}
use Rattle.eqc_case.specs.Answer.{models_answer, found_answer, texts_answer, read_texts}
use Rattle.eqc_case.specs.Answer.{IsComparison, Answers, was_stopped}
use Rattle.eqc_case.specs.Telling.{WarnsOf}
use Rattle.eqc_case.specs.Warning.{warnings_on, no_warnings, warnings_at, WarnsOfKnown, IsWarned}
use Rattle.eqc_case.specs.declared.warning.Warnings.{Warnings}
use Rattle.eqc_report.specs.declared.report.Status.TheVariants.{Equivalent, Differs, Vacuous}
use Rattle.eqc_report.specs.declared.report.Status.TheVariants.{Refused, Stopped}
use Rattle.eqc_report.specs.ReportView.{status_of}
use Rattle.eqc_case.specs.Sources.{items_of, given_of, IsRead, MayBeRead, AreTextsRead, AreRead}
use Rattle.eqc_report.specs.Written.{IsWritten}
use Rattle.eqc_case.specs.Left.{IsLeftBeside}
use Rattle.eqc_case.specs.Running.{two_known, known_texts, known_some, all_known, known_given}
use Rattle.eqc_case.specs.Running.{IsReport, IsKept}
use Rattle.eqc_report.specs.declared.report.Report.{Report}
use Rattle.eqc_report.specs.declared.undecided.Undecided.{Undecided}

if_some_all : {A : Type 0} (o : Option A) (P : A → Type 0) → ((x : A) → P x) → IfSome o P
if_some_all None P h = tt
if_some_all (Some x) P h = h x

if_known : {A : Type 0} (o : Option A) (P Q : A → Type 0) → ((x : A) → P x → Q x) → IfSome o P
    → IfSome o Q
if_known None P Q h p = tt
if_known (Some x) P Q h p = h x p

-- want of memory answers all that may be given
pub memory_reports : {R : Type 0} (remaining : R → Option (List ℕ)) (given : Given R)
    → IsReport remaining given (stopped (code_of Memory))
memory_reports remaining given = if_some_all (known_given remaining given) _
    (λ known. was_stopped Memory tt)

-- what is read of a text is the text, or both are too long
whole_or_long : (limit : ℕ) (bytes : List ℕ) → (bytes_read limit bytes ≡ bytes)
    ⊎ ((is_too_long limit (bytes_read limit bytes) ≡ true) × (is_too_long limit bytes ≡ true))
unfolding bytes_read
whole_or_long limit bytes = elim (cases_lt limit (length bytes)) [
  | inl long ↦ inr (
    lt-ltb limit (length (take (suc limit) bytes))
        (omega (arith, length-take-le (suc limit) bytes)),
    lt-ltb limit (length bytes) long,
  )
  | inr short ↦ inl (take_all (suc limit) bytes (omega arith))
]

outcome_read : (limit : ℕ) (bytes : List ℕ) → outcome limit (bytes_read limit bytes)
    ≡ outcome limit bytes
outcome_read limit bytes = elim (whole_or_long limit bytes) [
  | inl whole ↦ ap (outcome limit) whole
  | inr long ↦ rw (long.0, long.1) refl
]

order_read : (inputs : List (List ℕ)) (text : List ℕ) → order_code inputs (bytes_read 16777216 text)
    ≡ order_code inputs text
order_read inputs text = elim (whole_or_long 16777216 text) [
  | inl whole ↦
      ap (order_code inputs) whole
  | inr long ↦ rw (long.0, long.1) refl
]

-- what is read of texts
texts_read : ℕ → TextsOf → TextsOf
texts_read limit (one_text names text) = one_text names (bytes_read limit text)
texts_read limit (two_texts names first second) = two_texts names (bytes_read limit first)
    (bytes_read limit second)

-- it has the same models
first_read : (limit : ℕ) (texts : TextsOf) → first_found limit (texts_read limit texts)
    ≡ first_found limit texts
unfolding texts_read
first_read limit (one_text names text) = ap (λ o. main_of o names.first 0) (outcome_read limit text)
first_read limit (two_texts names first second) =
    ap (λ o. main_of o names.first 0) (outcome_read limit first)

second_read : (limit : ℕ) (texts : TextsOf) → second_found limit (texts_read limit texts)
    ≡ second_found limit texts
unfolding texts_read
second_read limit (one_text names text) = ap (λ o. main_of o names.second 1)
    (outcome_read limit text)
second_read limit (two_texts names first second) = ap (λ o. main_of o names.second 0)
    (outcome_read limit second)

warnings_read : (limit : ℕ) (texts : TextsOf) → warnings_on limit (texts_read limit texts)
    ≡ warnings_on limit texts
unfolding texts_read
warnings_read limit (one_text names text) = rw (outcome_read limit text) refl
warnings_read limit (two_texts names first second) =
    rw (outcome_read limit first, outcome_read limit second) refl

-- an order text that was read has the same code
code_read : (inputs : List (List ℕ)) (order : Option (List ℕ))
    → code_of_order inputs (option_map (bytes_read 16777216) order) ≡ code_of_order inputs order
code_read inputs None = refl
code_read inputs (Some text) = order_read inputs text

-- and an assumption that was read has the same model
assumption_read : (given : GivenOf) (f g : NetlistOf) (assume : Option (List ℕ)) →
    assumed_answer given f g (option_map (bytes_read given.options.bytes) assume)
    ≡ assumed_answer given f g assume
assumption_read given f g None = refl
assumption_read given f g (Some text) = ap (λ o. assumption_answer given f g (main_of o None 0))
    (outcome_read given.options.bytes text)

-- what is read of all that a run is given
given_read : GivenOf → GivenOf
given_read given = record given {
  texts = texts_read given.options.bytes given.texts;
  order = option_map (bytes_read 16777216) given.order;
  assume = option_map (bytes_read given.options.bytes) given.assume;
}

models_read : (m n : MainOf) (given : GivenOf) → models_answer m n (given_read given)
    ≡ models_answer m n given
unfolding given_read
models_read m n given =
    ap₂ (λ code rest. or_code side.First (flat_code m.0 m.1 given.options.inputs)
    (or_code side.Second (flat_code n.0 n.1 given.options.inputs)
    (if not (same_names (inputs_of m) (inputs_of n)) then refused side.Pair 0 41 else if not
    (same_names (outputs_of m) (outputs_of n)) then refused side.Pair 0 42
    else if not (has_all (outputs_of m) given.outputs) then refused side.Pair 0 43 else or_code
    side.Order code rest)))
    (code_read (inputs_of m) given.order) (assumption_read given (netlist_of_model m)
    (netlist_of_model n) given.assume)

found_read : (x y : Result MainOf (ℕ × ℕ)) (given : GivenOf) → found_answer x y (given_read given)
    ≡ found_answer x y given
found_read (Err fault) y given = refl
found_read (Ok m) (Err fault) given = refl
found_read (Ok m) (Ok n) given = models_read m n given

-- the answer on what was read is that on what is given
answer_read : (given : GivenOf) → texts_answer (given_read given) ≡ texts_answer given
unfolding given_read
answer_read given =
    let limit = given.options.bytes in
    ap₂ (λ x y. found_answer x y (given_read given)) (first_read limit given.texts)
    (second_read limit given.texts)
    ∙ found_read (first_found limit given.texts) (second_found limit given.texts) given

-- texts whose bytes are known, and what was read of them
one_known : (limit : ℕ) (names : NamesOf) (known : Option (List ℕ)) (first : List ℕ)
    → IsRead limit known first →
    IfSome (option_map (one_text names) known) (λ texts. one_text names first
    ≡ texts_read limit texts)
unfolding texts_read
one_known limit names None first h = tt
one_known limit names (Some bytes) first h = ap (one_text names) h

both_known : (limit : ℕ) (names : NamesOf) (x y : Option (List ℕ)) (first second : List ℕ)
    → IsRead limit x first → IsRead limit y second →
    IfSome (two_known names x y) (λ texts. two_texts names first second ≡ texts_read limit texts)
unfolding texts_read
both_known limit names None y first second h k = tt
both_known limit names (Some a) None first second h k = tt
both_known limit names (Some a) (Some b) first second h k = rw (h, k) refl

texts_known : {R : Type 0} (limit : ℕ) (names : NamesOf) (remaining : R → Option (List ℕ))
    (texts : Texts R) (first : List ℕ) (second : Option (List ℕ)) →
    AreTextsRead limit remaining texts first second → IfSome (known_texts names remaining texts)
    (λ known. read_texts names first second ≡ texts_read limit known)
texts_known limit names remaining (One reader) first None h =
    one_known limit names (remaining reader) first h.0
texts_known limit names remaining (One reader) first (Some second) h =
    absurd (none-some second (sym h.1))
texts_known limit names remaining (Two reader other) first None h = absurd h.1
texts_known limit names remaining (Two reader other) first (Some second) h =
    both_known limit names (remaining reader) (remaining other) first second h.0 h.1

some_known : {R : Type 0} (limit : ℕ) (remaining : R → Option (List ℕ)) (order : Option R)
    (read : Option (List ℕ)) → MayBeRead limit remaining order read →
    IfSome (known_some remaining order) (λ known. read ≡ option_map (bytes_read limit) known)
some_known limit remaining None None h = refl
some_known limit remaining None (Some text) h = absurd h
some_known limit remaining (Some reader) None h = absurd h
some_known limit remaining (Some reader) (Some text) h = by (remaining reader) h
  where
    by : (known : Option (List ℕ)) → IsRead limit known text
        → IfSome (option_map Some known) (λ o. Some text ≡ option_map (bytes_read limit) o)
    by None h = tt
    by (Some bytes) h = ap Some h

-- the texts of a case
case_texts : {R : Type 0} (remaining : R → Option (List ℕ)) (given : Given R) (case : Case)
    → AreRead given.options.bytes remaining given case →
    IfSome (known_texts given.names remaining given.texts) (λ known. (given_of case).texts
    ≡ texts_read given.options.bytes known)
case_texts remaining given case h =
    subst (λ names. IfSome (known_texts given.names remaining given.texts)
    (λ known. read_texts names case.first.items (items_of case.second)
    ≡ texts_read given.options.bytes known)) (sym h.names)
    (texts_known given.options.bytes given.names remaining given.texts case.first.items
    (items_of case.second) h.texts)

-- a case is what is read of what was given
is_read : (case : GivenOf) (given : GivenOf) → case.texts ≡ texts_read given.options.bytes
    given.texts → case.order ≡ option_map (bytes_read 16777216) given.order →
    case.assume ≡ option_map (bytes_read given.options.bytes) given.assume
    → case.outputs ≡ given.outputs → case.options ≡ given.options
    → case ≡ given_read given
unfolding given_read
is_read case given t o a c p = by case.texts case.order case.assume case.outputs case.options t o a
    c p
  where
    by : (texts : TextsOf) (order assume : Option (List ℕ)) (outputs : List (List ℕ))
        (options : Options) → texts ≡ texts_read given.options.bytes given.texts →
        order ≡ option_map (bytes_read 16777216) given.order
        → assume ≡ option_map (bytes_read given.options.bytes) given.assume
        → outputs ≡ given.outputs → options ≡ given.options
        → ◌≡◌ {A = GivenOf} (record {
          texts = texts;
          order = order;
          assume = assume;
          outputs =
              outputs;
          options = options;
        }) (given_read given)
    by texts order assume outputs options t o a c p = rw (t, o, a, c, p) refl

-- a report that answers what was read answers what is given
pub read_reports : {R : Type 0} (remaining : R → Option (List ℕ)) (given : Given R) (case : Case)
    (report : ReportOf) →
    AreRead given.options.bytes remaining given case → Answers (texts_answer (given_of case)) report
    → IsReport remaining given report
read_reports remaining given case report h answers =
    by (known_texts given.names remaining given.texts) (known_some remaining given.order)
    (known_some remaining given.assume)
    (case_texts remaining given case h) (some_known 16777216 remaining given.order
    (items_of case.order) h.order)
    (some_known given.options.bytes remaining given.assume (items_of case.assume) h.assume)
  where
    by : (texts : Option TextsOf) (order assume : Option (Option (List ℕ)))
        → IfSome texts (λ known. (given_of case).texts ≡ texts_read given.options.bytes known) →
        IfSome order (λ known. items_of case.order ≡ option_map (bytes_read 16777216) known)
        → IfSome assume (λ known. items_of case.assume ≡ option_map (bytes_read given.options.bytes)
        known)
        → IfSome (all_known given.outputs given.options texts order assume)
        (λ known. Answers (texts_answer known) report)
    by None order assume t o a = tt
    by (Some texts) None assume t o a = tt
    by (Some texts) (Some order) None t o a = tt
    by (Some texts) (Some order) (Some assume) t o a =
        let known : GivenOf = record {
          texts = texts;
          order = order;
          assume = assume;
          outputs =
              given.outputs;
          options = given.options;
        } in
        subst (λ (w : ReportOf). Answers w report) (ap texts_answer (is_read (given_of case) known t
        o a h.outputs h.options) ∙ answer_read known) answers

-- warnings on what was read are warnings on the texts
pub read_warns : {R : Type 0} (remaining : R → Option (List ℕ)) (given : Given R) (case : Case)
    (report : ReportOf) (found : Warnings) →
    AreRead given.options.bytes remaining given case → WarnsOf (given_of case) report found
    → WarnsOfKnown remaining given report found
read_warns remaining given case report found h w =
    λ is. if_known (known_texts given.names remaining given.texts) _ _ (λ known t. warned known
    (w is) t) (case_texts remaining given case h)
  where
    warned : (known : TextsOf) → found ≡ warnings_on case.options.bytes (given_of case).texts
        → (given_of case).texts ≡ texts_read given.options.bytes known
        → found ≡ warnings_on given.options.bytes known
    warned known is t =
        is ∙ (ap (λ (o : Options). warnings_on o.bytes (given_of case).texts) h.options
        ∙ (ap (warnings_on given.options.bytes) t ∙ warnings_read given.options.bytes known))

-- ---- warnings at the end of a run

-- a verdict that is written is the report's
verdict_shown : (report : ReportOf) (old new : Option (List ℕ)) (status : Status)
    (w : IsWritten report old new status) → IsComparison w.shown → IsComparison report
verdict_shown report old new status w is = elim w.one_of [
  | inl e ↦ subst IsComparison e is
  | inr e ↦
      absurd (subst IsComparison e.0 is)
]

verdict_of : (shown : ReportOf) → (status : Status) → status ≡ status_of shown
    → (IsComparison shown) ⊎ ((w : Warnings) → warnings_at status w ≡ no_warnings)
verdict_of equivalent status e = inl tt
verdict_of (differs differences) status e = inl tt
verdict_of vacuous status e = inr (λ w. rw e refl)
verdict_of (refused at line code) status e = inr (λ w. rw e refl)
verdict_of (stopped code) status e = inr (λ w. rw e refl)

kept_once : (status : Status) (w : Warnings) → warnings_at status (warnings_at status w)
    ≡ warnings_at status w
kept_once Equivalent w = refl
kept_once Differs w = refl
kept_once Vacuous w = refl
kept_once Refused w = refl
kept_once Stopped w = refl

-- the warnings of a report that was written
pub written_warned : {R : Type 0} (remaining : R → Option (List ℕ)) (given : Given R)
    (report : ReportOf) (old new : Option (List ℕ)) (status : Status) (found at : Warnings) →
    WarnsOfKnown remaining given report found → IsWritten report old new status
    → at ≡ warnings_at status found → IsWarned remaining given status at
written_warned remaining given report old new status found at warns w e = record {
  verdict = ap (warnings_at status) e ∙ (kept_once status found ∙ sym e);
  known = elim (verdict_of w.shown status w.kind) [
    | inl is ↦
        if_known (known_texts given.names remaining given.texts) (λ known. found
        ≡ warnings_on given.options.bytes known)
        (λ known. at ≡ warnings_at status (warnings_on given.options.bytes known)) (λ known same. e
        ∙ ap (warnings_at status) same)
        (warns (verdict_shown report old new status w is))
    | inr none ↦ if_some_all (known_texts given.names remaining given.texts) _ (λ known. e
        ∙ (none found ∙ sym (none (warnings_on given.options.bytes known))))
  ];
}

-- what is kept with a report is told of what was read for it
pub kept_beside : {R : Type 0} (remaining : R → Option (List ℕ)) (given : Given R) (report : Report)
    (left : Undecided) (case : Option Case) → IsKept remaining given report left case →
    IsLeftBeside case report left
kept_beside remaining given report left None kept = kept.told
kept_beside remaining given report left (Some case) kept = kept.told
