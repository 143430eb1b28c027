-- The answer is the first refusal of a list of checks, or the report behind them where all pass.
use Rattle.std.proofs.Common.{◌≡◌, ◌⊎◌, inl, inr, ℕ, zero, suc, ◌<◌, Bool, true, false, not, List}
use Rattle.std.proofs.Common.{[], ◌∷◌, ◌++◌, length, map, get_or, ◌==◌, Option, Some, None, Result}
use Rattle.std.proofs.Common.{Ok, Err, sym, ap, refl, ◌∙◌, arith, subst, suc-le-suc, nat_lt}
use Rattle.std.proofs.Common.{if◌then◌else◌}
use Rattle.std.proofs.lemmas.Option.{none-some}
use Rattle.std.proofs.lemmas.List.{get_or_past}
use Rattle.eqc_netlist.specs.Names.{has_twice}
use Rattle.eqc_hierarchy.specs.Codes.{flat_code}
use Rattle.eqc_pair.specs.declared.refused.Refused.{Refused}
use Rattle.eqc_pair.specs.declared.refused.Side.TheVariants as side
use Rattle.eqc_report.specs.Options.{is_between, is_cell_count, options_code}
use Rattle.eqc_pair.specs.Matched.{has_all, same_names, order_words}
use Rattle.std.specs.Option.{option_map}
use Rattle.eqc_compare.specs.Verdict.{NetlistOf, VerdictOf, vacuous}
use Rattle.eqc_compare.specs.Verdict.{compared as found}
use Rattle.eqc_report.specs.Report.{DifferenceOf, ReportOf, refused, stopped, shown}
use Rattle.eqc_report.specs.Report.{differences_report, verdict_report}
use Rattle.eqc_case.specs.Answer.{GivenOf, first_found, second_found, MainOf, inputs_of, outputs_of}
use Rattle.eqc_case.specs.Answer.{netlist_of_model, compared, assumption_found, assumption_answer}
use Rattle.eqc_case.specs.Answer.{assumed_answer, code_of_order, pair_answer, or_code}
use Rattle.eqc_case.specs.Answer.{models_answer, found_answer, texts_answer, options_answer, answer}
use Rattle.eqc_case.specs.Answer.{IsAccepting}
use Rattle.eqc_case.specs.AnswerLaws.{main_or_none, first_main, second_main, assumption_main}
use Rattle.eqc_case.specs.AnswerLaws.{refused_if, refused_by_code, refused_by_fault, text_checks}
use Rattle.eqc_case.specs.AnswerLaws.{order_checks, assumption_checks, checks, IsFirstRefusal}

-- the first refusal of a list, or else a report
abbrev pub verdict : List (Option Refused) → ReportOf → ReportOf
verdict [] rest = rest
verdict (None ∷ all) rest = verdict all rest
verdict (Some r ∷ all) rest = refused r.side r.line r.code

-- every check of a list passes
abbrev pub PassAll : List (Option Refused) → Type 0
PassAll all = (k : ℕ) → get_or all k None ≡ None

pub pass_none : PassAll []
pass_none k = get_or_past [] k None (omega arith)

pub pass_more : (x : Option Refused) (all : List (Option Refused)) → x ≡ None → PassAll all
    → PassAll (x ∷ all)
pass_more x all e h zero = e
pass_more x all e h (suc k) = h k

-- each check of a list passes, one by one
abbrev pub EachPasses : List (Option Refused) → Type 0
EachPasses [] = Unit {0}
EachPasses (x ∷ all) = (x ≡ None) × EachPasses all

pub pass_each : (all : List (Option Refused)) → EachPasses all → PassAll all
pass_each [] h = pass_none
pass_each (x ∷ all) h = pass_more x all h.0 (pass_each all h.1)

pub pass_both : (xs ys : List (Option Refused)) → PassAll xs → PassAll ys → PassAll (xs ++ ys)
pass_both [] ys h k = k
pass_both (x ∷ xs) ys h k = pass_more x (xs ++ ys) (h zero) (pass_both xs ys (λ i. h (suc i)) k)

-- where all of some checks pass, the others decide
pub passed_before : (xs ys : List (Option Refused)) (rest : ReportOf) → PassAll xs
    → verdict (xs ++ ys) rest ≡ verdict ys rest
passed_before [] ys rest h = refl
passed_before (None ∷ xs) ys rest h = passed_before xs ys rest (λ k. h (suc k))
passed_before (Some r ∷ xs) ys rest h = absurd (none-some r (sym (h zero)))

pub all_passed : (xs : List (Option Refused)) (rest : ReportOf) → PassAll xs
    → verdict xs rest ≡ rest
all_passed [] rest h = refl
all_passed (None ∷ xs) rest h = all_passed xs rest (λ k. h (suc k))
all_passed (Some r ∷ xs) rest h = absurd (none-some r (sym (h zero)))

pub passed_behind : (xs ys : List (Option Refused)) (rest : ReportOf) → PassAll ys
    → verdict (xs ++ ys) rest ≡ verdict xs rest
passed_behind [] ys rest h = all_passed ys rest h
passed_behind (None ∷ xs) ys rest h = passed_behind xs ys rest h
passed_behind (Some r ∷ xs) ys rest h = refl

-- all of some checks pass, or what follows them plays no part
pub pass_or_refuse : (xs : List (Option Refused)) → PassAll xs
    ⊎ ((ys : List (Option Refused)) (rest : ReportOf) → verdict (xs ++ ys) rest ≡ verdict xs rest)
pass_or_refuse [] = inl pass_none
pass_or_refuse (Some r ∷ xs) = inr (λ ys rest. refl)
pass_or_refuse (None ∷ xs) = elim (pass_or_refuse xs) [
  | inl pass ↦ inl (pass_more None xs refl pass)
  | inr refuse ↦ inr refuse
]

-- the refusal that a report is
refusal_in : Refused → ReportOf → Refused
refusal_in other (refused at number code) = record { side = at; line = number; code = code }
refusal_in other report = other

same_refusal : (r s : Refused) → refused r.side r.line r.code ≡ refused s.side s.line s.code → r ≡ s
unfolding refusal_in
same_refusal r s e = ap (refusal_in r) e

-- what is refused is the first refusal
pub refused_first : (all : List (Option Refused)) (rest : ReportOf) (r : Refused) → IsAccepting rest
    → verdict all rest ≡ refused r.side r.line r.code → IsFirstRefusal all r
refused_first [] rest r c e = absurd (subst IsAccepting e c)
refused_first (None ∷ all) rest r c e =
    let first = refused_first all rest r c e in
    record {
      position = suc first.position;
      refuses = first.refuses;
      before =
          more first.position first.before;
    }
  where
    more : (p : ℕ) → ((k : ℕ) → k < p → get_or all k None ≡ None) → (k : ℕ) → k < suc p
        → get_or (None ∷ all) k None ≡ None
    more p h zero below = refl
    more p h (suc k) below = h k (omega arith)
refused_first (Some s ∷ all) rest r c e = record {
  position = zero;
  refuses =
      ap Some (same_refusal s r e);
  before = λ k h. absurd (omega arith);
}

refused_at : (all : List (Option Refused)) (rest : ReportOf) (r : Refused) (p : ℕ)
    → get_or all p None ≡ Some r →
    ((k : ℕ) → k < p → get_or all k None ≡ None) → verdict all rest ≡ refused r.side r.line r.code
refused_at [] rest r p e before = absurd (none-some r (sym (get_or_past [] p None (omega arith))
    ∙ e))
refused_at (x ∷ all) rest r zero e before = ap (λ c. verdict (c ∷ all) rest) e
refused_at (x ∷ all) rest r (suc p) e before =
    ap (λ c. verdict (c ∷ all) rest) (before zero (omega arith))
    ∙ refused_at all rest r p e (λ k h. before (suc k) (suc-le-suc h))

-- the first refusal is what is refused
pub first_refused : (all : List (Option Refused)) (rest : ReportOf) (r : Refused)
    → IsFirstRefusal all r → verdict all rest ≡ refused r.side r.line r.code
first_refused all rest r first = refused_at all rest r first.position first.refuses first.before

-- where the report is none of theirs, all pass
pub compared_passed : (all : List (Option Refused)) (rest : ReportOf)
    → IsAccepting (verdict all rest) → PassAll all
compared_passed [] rest c = pass_none
compared_passed (None ∷ all) rest c = pass_more None all refl (compared_passed all rest c)
compared_passed (Some r ∷ all) rest c = absurd c

pub never_stopped : (all : List (Option Refused)) (rest : ReportOf) (code : ℕ) → IsAccepting rest
    → verdict all rest ≡ stopped code → ⊥
never_stopped [] rest code c e = subst IsAccepting e c
never_stopped (None ∷ all) rest code c e = never_stopped all rest code c e
never_stopped (Some r ∷ all) rest code c e = let clash : refused r.side r.line r.code
    ≡ stopped code = e in cc

-- ---- the answer's checks

-- the report behind all checks
abbrev pub decided : GivenOf → ReportOf
decided given =
    compared given (netlist_of_model (first_main given.options.bytes given.texts))
    (netlist_of_model (second_main given.options.bytes given.texts))
    (option_map (λ text. netlist_of_model (assumption_main given.options.bytes text))
    given.assume)

pub is_accepting : (f g : NetlistOf) (v : VerdictOf) → IsAccepting (verdict_report f g v)
is_accepting f g vacuous = tt
is_accepting f g (found ds) = by (map (shown f g) ds)
  where
    by : (all : List DifferenceOf) → IsAccepting (differences_report all)
    by [] = tt
    by (d ∷ ds) = tt

options_checked : (a b c d e f : Bool) (all : List (Option Refused)) (rest : ReportOf) →
    options_answer
    (if not a then Some 81 else if not b then Some 82 else if not c then Some 83 else if not d then
    Some 84 else if not e then Some 85 else if not f then Some 86 else None)
    (verdict all rest)
    ≡ verdict (refused_if (not a) side.Options 81 ∷ refused_if (not b) side.Options 82
    ∷ refused_if (not c) side.Options 83 ∷ refused_if (not d) side.Options 84
    ∷ refused_if (not e) side.Options 85 ∷ refused_if (not f) side.Options 86 ∷ all) rest
options_checked false b c d e f all rest = refl
options_checked true false c d e f all rest = refl
options_checked true true false d e f all rest = refl
options_checked true true true false e f all rest = refl
options_checked true true true true false f all rest = refl
options_checked true true true true true false all rest = refl
options_checked true true true true true true all rest = refl

-- of an assumption
assumption_checked : (given : GivenOf) (f g : NetlistOf) (assume : Option (List ℕ)) →
    assumed_answer given f g assume ≡ verdict (assumption_checks f.inputs given.options.bytes
    given.options.inputs assume)
    (compared given f g (option_map (λ text. netlist_of_model (assumption_main given.options.bytes
    text)) assume))
assumption_checked given f g None = refl
assumption_checked given f g (Some text) = by (assumption_found given.options.bytes text)
  where
    parts : (code : Option ℕ) (a b : Bool) (rest : ReportOf) →
        or_code side.Assume code (or_code side.Assume (if not a then Some 61 else if not b then Some
        62 else None) rest)
        ≡ verdict (refused_by_code side.Assume code ∷ refused_if (not a) side.Assume 61
        ∷ refused_if (not b) side.Assume 62 ∷ []) rest
    parts (Some code) a b rest = refl
    parts None false b rest = refl
    parts None true false rest = refl
    parts None true true rest = refl

    by : (h : Result MainOf (ℕ × ℕ)) →
        assumption_answer given f g h
        ≡ verdict (refused_by_fault side.Assume h ∷ refused_by_code side.Assume
        (flat_code (main_or_none h).0 (main_or_none h).1 given.options.inputs)
        ∷ refused_if (not (has_all f.inputs (inputs_of (main_or_none h)))) side.Assume 61
        ∷ refused_if (not (length (outputs_of (main_or_none h)) == 1)) side.Assume 62 ∷ [])
        (compared given f g (Some (netlist_of_model (main_or_none h))))
    by (Err fault) = refl
    by (Ok h) = parts (flat_code h.0 h.1 given.options.inputs) (has_all f.inputs (inputs_of h))
        (length (outputs_of h) == 1) (compared given f g (Some (netlist_of_model h)))

-- of an order text, before others
order_checked : (inputs : List (List ℕ)) (order : Option (List ℕ)) (all : List (Option Refused))
    (rest : ReportOf) →
    or_code side.Order (code_of_order inputs order) (verdict all rest)
    ≡ verdict (order_checks inputs order ++ all) rest
order_checked inputs None all rest = refl
order_checked inputs (Some text) all rest = by (nat_lt 16777216 (length text))
    (has_all inputs (order_words text)) (has_twice (order_words text)) (has_all (order_words text)
    inputs)
  where
    by : (long known twice back : Bool) →
        or_code side.Order (if long then Some 2 else if not known then Some 51 else if twice then
        Some 52 else if not back then Some 53 else None) (verdict all rest)
        ≡ verdict (refused_if long side.Order 2 ∷ refused_if (not known) side.Order 51
        ∷ refused_if twice side.Order 52 ∷ refused_if (not back) side.Order 53 ∷ all) rest
    by true known twice back = refl
    by false false twice back = refl
    by false true true back = refl
    by false true false false = refl
    by false true false true = refl

-- of an order text and an assumption
abbrev last_checks : MainOf → GivenOf → List (Option Refused)
last_checks m given = order_checks (inputs_of m) given.order ++ assumption_checks (inputs_of m)
    given.options.bytes given.options.inputs given.assume

-- the report on two main models behind them
abbrev on_models : MainOf → MainOf → GivenOf → ReportOf
on_models m n given = compared given (netlist_of_model m) (netlist_of_model n)
    (option_map (λ text. netlist_of_model (assumption_main given.options.bytes text)) given.assume)

-- of two main models
abbrev pair_checks : MainOf → MainOf → GivenOf → List (Option Refused)
pair_checks m n given =
    refused_if (not (same_names (inputs_of m) (inputs_of n))) side.Pair 41
    ∷ refused_if (not (same_names (outputs_of m) (outputs_of n))) side.Pair 42
    ∷ refused_if (not (has_all (outputs_of m) given.outputs)) side.Pair 43 ∷ last_checks m given

pair_checked : (m n : MainOf) (given : GivenOf) → pair_answer m n given
    ≡ verdict (pair_checks m n given) (on_models m n given)
pair_checked m n given =
    ap (λ (rest : ReportOf). if not (same_names (inputs_of m) (inputs_of n)) then refused side.Pair
    0 41 else if not (same_names (outputs_of m) (outputs_of n)) then refused side.Pair 0 42
    else if not (has_all (outputs_of m) given.outputs) then refused side.Pair 0 43 else rest)
    (ap (or_code side.Order (code_of_order (inputs_of m) given.order)) (assumption_checked given
    (netlist_of_model m) (netlist_of_model n) given.assume)
    ∙ order_checked (inputs_of m) given.order (assumption_checks (inputs_of m) given.options.bytes
    given.options.inputs given.assume) (on_models m n given))
    ∙ by (same_names (inputs_of m) (inputs_of n)) (same_names (outputs_of m) (outputs_of n))
    (has_all (outputs_of m) given.outputs) (last_checks m given) (on_models m n given)
  where
    by : (a b c : Bool) (all : List (Option Refused)) (rest : ReportOf) →
        (if not a then refused side.Pair 0 41 else if not b then refused side.Pair 0 42 else if not
        c then refused side.Pair 0 43 else verdict all rest)
        ≡ verdict (refused_if (not a) side.Pair 41 ∷ refused_if (not b) side.Pair 42
        ∷ refused_if (not c) side.Pair 43 ∷ all) rest
    by false b c all rest = refl
    by true false c all rest = refl
    by true true false all rest = refl
    by true true true all rest = refl

abbrev models_checks : MainOf → MainOf → GivenOf → List (Option Refused)
models_checks m n given = refused_by_code side.First (flat_code m.0 m.1 given.options.inputs)
    ∷ refused_by_code side.Second (flat_code n.0 n.1 given.options.inputs) ∷ pair_checks m n given

models_checked : (m n : MainOf) (given : GivenOf) → models_answer m n given
    ≡ verdict (models_checks m n given) (on_models m n given)
models_checked m n given = by (flat_code m.0 m.1 given.options.inputs)
    (flat_code n.0 n.1 given.options.inputs)
  where
    by : (x y : Option ℕ) →
        or_code side.First x (or_code side.Second y (pair_answer m n given))
        ≡ verdict (refused_by_code side.First x ∷ refused_by_code side.Second y
        ∷ pair_checks m n given) (on_models m n given)
    by (Some x) y = refl
    by None (Some y) = refl
    by None None = pair_checked m n given

found_checked : (first second : Result MainOf (ℕ × ℕ)) (given : GivenOf) →
    found_answer first second given
    ≡ verdict
    (refused_by_fault side.First first ∷ refused_by_fault side.Second second
    ∷ models_checks (main_or_none first) (main_or_none second) given)
    (on_models (main_or_none first) (main_or_none second) given)
found_checked (Err fault) second given = refl
found_checked (Ok m) (Err fault) given = refl
found_checked (Ok m) (Ok n) given = models_checked m n given

-- the checks behind those of the options
abbrev pub read_checks : GivenOf → List (Option Refused)
read_checks given =
    text_checks given.texts given.outputs given.options.bytes given.options.inputs
    ++ order_checks (inputs_of (first_main given.options.bytes given.texts)) given.order
    ++ assumption_checks (inputs_of (first_main given.options.bytes given.texts))
    given.options.bytes given.options.inputs given.assume

texts_checked : (given : GivenOf) → texts_answer given ≡ verdict (read_checks given) (decided given)
texts_checked given = found_checked (first_found given.options.bytes given.texts)
    (second_found given.options.bytes given.texts) given

-- the answer is the first refusal of all checks, or the report behind them
pub answer_checked : (given : GivenOf) → answer given ≡ verdict (checks given) (decided given)
answer_checked given =
    let options = given.options in
    ap (options_answer (options_code options)) (texts_checked given)
    ∙ options_checked (is_between 1 64 options.workers) (is_between 1 1048574 options.nodes)
    (is_cell_count options.cells) (is_between 0 16 options.forks)
    (is_between 0 65535 options.inputs)
    (is_between 0 2147483647 options.bytes) (read_checks given) (decided given)
