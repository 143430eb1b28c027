-- The line of a refusal, and what is named of it.
use Rattle.std.proofs.Common.{◌≡◌, ℕ, ◌+◌, ◌<◌, ◌≤◌, Bool, true, false, cond, List, [], ◌∷◌, length}
use Rattle.std.proofs.Common.{Option, Some, None, refl, sym, ◌∙◌, ap, subst, arith, inl, inr, ◌⊎◌}
use Rattle.std.specs.List.{list_any}
use Rattle.std.specs.Result.{result_err}
use Rattle.std.proofs.lemmas.Bool.{cases_Bool, eq-eqb, ne_eqb, ltb-true}
use Rattle.eqc_blif.specs.Netlist.{ModelOf}
use Rattle.eqc_blif.specs.Lines.{logical_lines}
use Rattle.eqc_blif.specs.Words.{arguments, without_blanks}
use Rattle.eqc_blif.specs.Kind.{kind_of_line}
use Rattle.eqc_blif.proofs.CodeLemmas.{not_two, not_thirteen}
use Rattle.eqc_blif.specs.Reading.{After, start, opened, models, is_bad_byte, line_code, then_line}
use Rattle.eqc_blif.specs.Reading.{after, or_behind, first_fault, statement_code, is_too_long}
use Rattle.eqc_blif.specs.Reading.{outcome_by}
use Rattle.eqc_blif.specs.Laws.{rises}
use Rattle.eqc_blif.specs.Finding.{refused, line_at, code_of, finding_code, HoldsOfLine}
use Rattle.eqc_blif.specs.Finding.{HoldsOfRefusedLine, IsExplained, IsLineExplained}
use Rattle.eqc_blif.specs.declared.reader.kind.Kind.{Kind}
use Rattle.eqc_blif.specs.declared.finding.Finding.{Finding}
use Rattle.eqc_blif.specs.declared.finding.Finding.TheVariants.{
  ControlByte,
  TextTooLong,
  UnknownCommand,
  BehindEnd,
  RowOutsideCover,
  RowShape,
  RowOutput,
  NoPair,
  NoWord,
  ModelTwice,
  InputTwice,
  OutputTwice,
  NoStatement,
}

pub of_some : {A : Type 0} (x y : A) → Some x ≡ Some y → x ≡ y
of_some x y is = cc

-- what a line with a fault behind it says: its code, or the fault behind it
pub at_line : (m n code : ℕ) (o : Option ℕ) (behind : Option (ℕ × ℕ)) → or_behind m o behind
    ≡ Some (n, code) → ((m ≡ n) × (o ≡ Some code)) ⊎ ((o ≡ None) × (behind ≡ Some (n, code)))
at_line m n code None behind is = inr (refl, is)
at_line m n code (Some c) behind is =
    let pair = of_some (m, c) (n, code) is in
    inl (ap (λ (p : ℕ × ℕ). p.0) pair, ap (λ (p : ℕ × ℕ). Some p.1) pair)

-- a fault has a number from the least on
not_below : (least n code : ℕ) (st : After) (lines : List (ℕ × List ℕ)) → rises least lines
    → first_fault st lines ≡ Some (n, code) → least ≤ n
not_below least n code st [] up is = cc
not_below least n code st (x ∷ xs) up is =
    elim (at_line x.0 n code (line_code st x.1) (first_fault (then_line x.1 st) xs) is) [
      | inl here ↦ omega (arith, up.0, here.0)
      | inr later ↦ omega (arith, up.0, not_below (x.0 + 1) n code (then_line x.1 st) xs up.1 later.1)
    ]

-- the line of the number of a fault has its code
pub has_code : (least n code : ℕ) (st now : After) (line : List ℕ) (lines : List (ℕ × List ℕ))
    → rises least lines
    → first_fault st lines ≡ Some (n, code) → line_at n st lines ≡ Some (now, line)
    → line_code now line ≡ Some code
has_code least n code st now line [] up is there = cc
has_code least n code st now line (x ∷ xs) up is there =
    elim (at_line x.0 n code (line_code st x.1) (first_fault (then_line x.1 st) xs) is) [
      | inl here ↦
          let found : Some (st, x.1) ≡ Some (now, line) = rw (eq-eqb x.0 n here.0) at there in
          sym (ap (λ (p : After × List ℕ). line_code p.0 p.1) (of_some (st, x.1) (now, line) found))
          ∙ here.1
      | inr later ↦
          let behind : x.0 ≡ n → ⊥ = λ e. omega (
            arith,
            e,
            not_below (x.0 + 1) n code (then_line x.1 st)
                xs up.1 later.1,
          ) in
          has_code (x.0 + 1) n code (then_line x.1 st) now line xs up.1 later.1
          (rw (ne_eqb x.0 n behind) at there)
    ]

-- why a text is refused: its length, a line, or that it has no statement
pub record IsRefused (limit : ℕ) (text : List ℕ) (n code : ℕ) : Type 0 where
  pub short : is_too_long limit text ≡ false
  pub fault : first_fault start (logical_lines text) ≡ Some (n, code)

pub why : (limit : ℕ) (text : List ℕ) (n code : ℕ) → refused limit text ≡ Some (n, code)
    → ((n ≡ 0) × (code ≡ 2) × (is_too_long limit text ≡ true))
    ⊎ (IsRefused limit text n code ⊎ ((n ≡ 0) × (code ≡ 13)
    × (models (after start (logical_lines text)) ≡ [])))
why limit text n code is = elim (cases_Bool (is_too_long limit text)) [
  | inl long ↦
      let given : Some (0, 2) ≡ Some (n, code) = rw long at is in
      let pair = of_some (0, 2) (n, code) given in
      inl (sym (ap (λ (p : ℕ × ℕ). p.0) pair), sym (ap (λ (p : ℕ × ℕ). p.1) pair), long)
  | inr short ↦
      let given : result_err (outcome_by (first_fault start (logical_lines text))
      (models (after start (logical_lines text)))) ≡ Some (n, code) = rw short at is in
      inr (by_lines short (first_fault start (logical_lines text)) refl
      (models (after start (logical_lines text))) refl given)
]
  where
    by_lines : is_too_long limit text ≡ false → (fault : Option (ℕ × ℕ))
        → first_fault start (logical_lines text) ≡ fault
        → (ms : List ModelOf) → models (after start (logical_lines text)) ≡ ms
        → result_err (outcome_by fault ms) ≡ Some (n, code)
        → IsRefused limit text n code ⊎ ((n ≡ 0) × (code ≡ 13)
        × (models (after start (logical_lines text)) ≡ []))
    by_lines short (Some fault) first ms all given = inl (record {
      short = short;
      fault = first
          ∙ given;
    })
    by_lines short None first [] all given =
        let pair = of_some (0, 13) (n, code) given in
        inr (sym (ap (λ (p : ℕ × ℕ). p.0) pair), sym (ap (λ (p : ℕ × ℕ). p.1) pair), all)
    by_lines short None first (m ∷ ms) all given = cc

-- no line has a code that no statement has, and that isn't 1
no_line : (n code : ℕ) → (code ≡ 1 → ⊥)
    → ((st : After) (kind : Kind) (ws : List (List ℕ)) (row : List ℕ)
    → statement_code st kind ws row ≡ Some code → ⊥)
    → (st : After) (lines : List (ℕ × List ℕ)) → first_fault st lines ≡ Some (n, code) → ⊥
no_line n code other none st [] is = cc
no_line n code other none st (x ∷ xs) is =
    elim (at_line x.0 n code (line_code st x.1) (first_fault (then_line x.1 st) xs) is) [
      | inl here ↦ by (list_any is_bad_byte x.1) here.1
      | inr later ↦ no_line n code other none (then_line x.1 st) xs later.1
    ]
  where
    by : (bad : Bool) → cond bad (Some 1) (code_of (opened (kind_of_line x.1) st) x.1) ≡ Some code
        → ⊥
    by true given = other (sym (of_some 1 code given))
    by false given = none (opened (kind_of_line x.1) st) (kind_of_line x.1) (arguments x.1)
        (without_blanks x.1) given

same_refusal : (limit : ℕ) (text : List ℕ) (n code m k : ℕ) → refused limit text ≡ Some (n, code)
    → n ≡ m → code ≡ k → refused limit text ≡ Some (m, k)
same_refusal limit text n code m k is line by = is ∙ (ap (λ (a : ℕ). Some (a, code)) line
    ∙ ap (λ (b : ℕ). Some (m, b)) by)

-- a text that is refused by 2 is too long
pub told_long : (limit : ℕ) (text : List ℕ) (n code : ℕ) → refused limit text ≡ Some (n, code)
    → code ≡ 2 → (refused limit text ≡ Some (0, 2)) × (limit < length text)
told_long limit text n code is two = elim (why limit text n code is) [
  | inl long ↦ (
    same_refusal limit text n code 0 2 is long.0 long.1,
    ltb-true limit (length text)
        long.2,
  )
  | inr (inl line) ↦ absurd (no_line n 2 (λ e. omega (arith, e)) not_two start (logical_lines text)
      (line.fault ∙ ap (λ (k : ℕ). Some (n, k)) two))
  | inr (inr empty) ↦ absurd (omega (arith, empty.1, two))
]

-- a text that is refused by 13 has no statement
pub told_empty : (limit : ℕ) (text : List ℕ) (n code : ℕ) → refused limit text ≡ Some (n, code)
    → code ≡ 13 → (refused limit text ≡ Some (0, 13)) × (models (after start (logical_lines text))
    ≡ [])
told_empty limit text n code is thirteen = elim (why limit text n code is) [
  | inl long ↦ absurd (omega (arith, long.1, thirteen))
  | inr (inl line) ↦ absurd (no_line n 13 (λ e. omega (arith, e)) not_thirteen start
      (logical_lines text) (line.fault ∙ ap (λ (k : ℕ). Some (n, k)) thirteen))
  | inr (inr empty) ↦ (same_refusal limit text n code 0 13 is empty.0 empty.1, empty.2)
]

-- a text that is refused by another code is refused for a line
pub told_line : (limit : ℕ) (text : List ℕ) (n code : ℕ) → refused limit text ≡ Some (n, code)
    → (code ≡ 2 → ⊥) → (code ≡ 13 → ⊥) → IsRefused limit text n code
told_line limit text n code is long empty = elim (why limit text n code is) [
  | inl two ↦ absurd (long two.1)
  | inr (inl line) ↦ line
  | inr (inr thirteen) ↦ absurd (empty thirteen.1)
]

-- a finding that holds of the line of a refusal
on_line : (limit : ℕ) (text : List ℕ) (n code : ℕ) (st : After) (line : List ℕ) (finding : Finding)
    → refused limit text ≡ Some (n, code)
    → line_at n start (logical_lines text) ≡ Some (st, line) → finding_code finding ≡ code
    → HoldsOfLine (opened (kind_of_line line) st) line finding
    → HoldsOfRefusedLine limit text finding
on_line limit text n code st line finding is there same holds = (
  n,
  st,
  line,
  is
      ∙ ap (λ (k : ℕ). Some (n, k)) (sym same),
  there,
  holds,
)

-- what is named of the line of a refusal is at fault
at_fault : (limit : ℕ) (text : List ℕ) (n code : ℕ) (st : After) (line : List ℕ)
    (found : Option Finding) → refused limit text ≡ Some (n, code)
    → line_at n start (logical_lines text) ≡ Some (st, line)
    → IsLineExplained (opened (kind_of_line line) st) line code found
    → IsExplained limit text found
at_fault limit text n code st line None is there four = rw (is, four) refl
at_fault limit text n code st line (Some (ControlByte b l k)) is there holds = absurd holds.1
at_fault limit text n code st line (Some (TextTooLong b l)) is there holds = absurd holds.1
at_fault limit text n code st line (Some (UnknownCommand w)) is there holds =
    on_line limit text n code st line (UnknownCommand w) is there holds.0 holds.1
at_fault limit text n code st line (Some (BehindEnd w)) is there holds =
    on_line limit text n code st line (BehindEnd w) is there holds.0 holds.1
at_fault limit text n code st line (Some (RowOutsideCover r)) is there holds =
    on_line limit text n code st line (RowOutsideCover r) is there holds.0 holds.1
at_fault limit text n code st line (Some (RowShape r k)) is there holds =
    on_line limit text n code st line (RowShape r k) is there holds.0 holds.1
at_fault limit text n code st line (Some (RowOutput o f)) is there holds =
    on_line limit text n code st line (RowOutput o f) is there holds.0 holds.1
at_fault limit text n code st line (Some (NoPair w)) is there holds =
    on_line limit text n code st line (NoPair w) is there holds.0 holds.1
at_fault limit text n code st line (Some (NoWord w)) is there holds =
    on_line limit text n code st line (NoWord w) is there holds.0 holds.1
at_fault limit text n code st line (Some (ModelTwice w)) is there holds =
    on_line limit text n code st line (ModelTwice w) is there holds.0 holds.1
at_fault limit text n code st line (Some (InputTwice w)) is there holds =
    on_line limit text n code st line (InputTwice w) is there holds.0 holds.1
at_fault limit text n code st line (Some (OutputTwice w)) is there holds =
    on_line limit text n code st line (OutputTwice w) is there holds.0 holds.1
at_fault limit text n code st line (Some NoStatement) is there holds = absurd holds.1

-- the same, where the line and what stands before it were computed
pub explained : (limit : ℕ) (text : List ℕ) (n code : ℕ) (st now : After) (line bytes : List ℕ)
    (kind : Kind) (found : Option Finding)
    → refused limit text ≡ Some (n, code) → line_at n start (logical_lines text) ≡ Some (st, line)
    → bytes ≡ line
    → kind ≡ kind_of_line line → now ≡ opened kind st → IsLineExplained now bytes code found
    → IsExplained limit text found
explained limit text n code st now line bytes kind found is there same of opens holds =
    let known : IsLineExplained (opened (kind_of_line line) st) line code found =
    subst (λ (b : List ℕ). IsLineExplained (opened (kind_of_line line) st) b code found) same
    (subst (λ (s : After). IsLineExplained s bytes code found) (opens
    ∙ ap (λ (k : Kind). opened k st) of) holds) in
    at_fault limit text n code st line found is there known
