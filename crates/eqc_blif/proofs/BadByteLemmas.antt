-- The first byte that is no part of a text is found, and a text that is refused for one has one.
use Rattle.std.proofs.Common.{
  ◌≡◌,
  ℕ,
  suc,
  zero,
  ◌+◌,
  ◌-◌,
  ◌<◌,
  ◌≤◌,
  Bool,
  true,
  false,
  cond,
  ◌||◌,
  List,
  [],
  ◌∷◌,
  ◌++◌,
  length,
  take,
  get_or,
  map,
  Option,
  Some,
  None,
  refl,
  sym,
  ◌∙◌,
  ap,
  arith,
  inl,
  inr,
}
use Rattle.std.specs.List.{list_any, enumerate_from, filter, position, position_or_len}
use Rattle.std.proofs.lemmas.Option.{slice_get-get_or}
use Rattle.std.proofs.lemmas.List.Quantifiers.{position-Some}
use Rattle.std.proofs.Math.Bool.{or-true}
use Rattle.std.proofs.lemmas.Bool.{cases_Bool, or_cases, lt-ltb}
use Rattle.eqc_blif.specs.Lines.{physical, clean, continues, spaced, onto_next, joined, is_seen}
use Rattle.eqc_blif.specs.Lines.{numbered, logical_lines}
use Rattle.eqc_blif.specs.Words.{arguments, without_blanks}
use Rattle.eqc_blif.specs.Kind.{kind_of_line}
use Rattle.eqc_blif.proofs.CodeLemmas.{not_one, alone}
use Rattle.std.proofs.lemmas.List.Folds.{list_any-append}
use Rattle.eqc_blif.specs.Reading.{After, start, opened, is_bad_byte, line_code, then_line}
use Rattle.eqc_blif.specs.Reading.{first_fault}
use Rattle.eqc_blif.specs.Finding.{code_of, IsBadByte}
use Rattle.eqc_blif.proofs.FindingLemmas.{of_some, at_line}

-- the first of some lines that has a bad byte, with its number
abbrev pub first_bad : List (ℕ × List ℕ) → Option (ℕ × List ℕ)
first_bad [] = None
first_bad (line ∷ lines) = cond (list_any is_bad_byte line.1) (Some (line.0, line.1))
    (first_bad lines)

-- where a byte passes a test, its place is found
found_within : (p : ℕ → Bool) (xs : List ℕ) → list_any p xs ≡ true → position_or_len p xs
    < length xs
found_within p [] some = cc
found_within p (x ∷ xs) some = elim (cases_Bool (p x)) [
  | inl passes ↦ rw passes (omega arith)
  | inr fails ↦
      let rest : list_any p xs ≡ true = rw fails at some in
      rw fails (omega (arith, found_within p xs rest))
]

none_found : (p : ℕ → Bool) (xs : List ℕ) → ((k : ℕ) → position p xs ≡ Some k → ⊥)
    → list_any p xs ≡ false
none_found p xs none = elim (cases_Bool (list_any p xs)) [
  | inl some ↦ absurd (none (position_or_len p xs) (rw (lt-ltb (position_or_len p xs) (length xs)
      (found_within p xs some)) refl))
  | inr fails ↦ fails
]

none_before : {A : Type 0} (p : A → Bool) (i : ℕ) (xs : List A) (d : A)
    → ((k : ℕ) → k < i → p (get_or xs k d) ≡ false) → i ≤ length xs → list_any p (take i xs) ≡ false
none_before p zero xs d none within = refl
none_before p (suc i) [] d none within = refl
none_before p (suc i) (x ∷ xs) d none within =
    let here : p x ≡ false = none 0 (omega arith) in
    rw here (none_before p i xs d (λ k below. none (suc k) (omega arith)) (omega arith))

-- a line of some number is the first from that number on
stands_first : (n m : ℕ) (piece line : List ℕ) (pieces : List (List ℕ)) → n ≡ m → piece ≡ line
    → (n ≤ m) × (get_or (piece ∷ pieces) (m - n) [] ≡ line)
    × (list_any (list_any is_bad_byte) (take (m - n) (piece ∷ pieces)) ≡ false)
stands_first n m piece line pieces same bytes =
    let none : m - n ≡ 0 = omega arith in
    (omega arith, rw none bytes, rw none refl)

-- the first of numbered lines that has a bad byte stands at its number
stands_at : (n m : ℕ) (line : List ℕ) (pieces : List (List ℕ)) → first_bad (enumerate_from n pieces)
    ≡ Some (m, line)
    → (n ≤ m) × (get_or pieces (m - n) [] ≡ line)
    × (list_any (list_any is_bad_byte) (take (m - n) pieces) ≡ false)
stands_at n m line [] is = cc
stands_at n m line (piece ∷ pieces) is = elim (cases_Bool (list_any is_bad_byte piece)) [
  | inl bad ↦
      let found : Some (n, piece) ≡ Some (m, line) = rw bad at is in
      let pair = of_some (n, piece) (m, line) found in
      stands_first n m piece line pieces (ap (λ (p : ℕ × List ℕ). p.0) pair)
      (ap (λ (p : ℕ × List ℕ). p.1) pair)
  | inr good ↦
      let behind = stands_at (n + 1) m line pieces (rw good at is) in
      let one : m - n ≡ suc (m - (n + 1)) = omega (arith, behind.0) in
      (omega (arith, behind.0), rw one behind.1, rw (one, good) behind.2)
]

-- the byte that is found first in a text is bad, and none before it
pub found_bad : (text line : List ℕ) (lines rest : List (ℕ × List ℕ)) (n p byte : ℕ)
    → first_bad lines ≡ first_bad (numbered 1 text) → lines ≡ (n, line) ∷ rest
    → position is_bad_byte line ≡ Some p
    → byte ≡ get_or line p 0 → IsBadByte text byte n (p + 1)
found_bad text line lines rest n p byte same are at is =
    let known = position-Some is_bad_byte line p 0 at in
    let has : list_any is_bad_byte line ≡ true = has_one line p known.0 known.1 in
    let found : first_bad (numbered 1 text) ≡ Some (n, line) = sym same
    ∙ (ap first_bad are ∙ rw has refl) in
    let place = stands_at 1 n line (map clean (physical text)) found in
    let back : p + 1 - 1 ≡ p = omega arith in (
      omega (arith, place.0),
      omega arith,
      rw (place.1, back, is) (slice_get-get_or line p 0 known.0),
      rw is known.1,
      rw (place.1, back) (none_before is_bad_byte p line 0 known.2 (omega (arith, known.0))),
      place.2,
    )
  where
    has_one : (xs : List ℕ) (k : ℕ) → k < length xs → is_bad_byte (get_or xs k 0) ≡ true
        → list_any is_bad_byte xs ≡ true
    has_one [] k within bad = absurd (omega (arith, within))
    has_one (x ∷ xs) zero within bad = rw bad refl
    has_one (x ∷ xs) (suc k) within bad = rw (has_one xs k (omega (arith, within)) bad)
        (or-true (is_bad_byte x))

-- a line without a bad byte is passed over
pub passed_over : (n : ℕ) (line : List ℕ) (lines rest : List (ℕ × List ℕ)) (all : Option (ℕ
    × List ℕ)) → lines ≡ (n, line) ∷ rest
    → ((k : ℕ) → position is_bad_byte line ≡ Some k → ⊥) → list_any (λ l. list_any is_bad_byte l.1)
    lines ≡ true
    → first_bad lines ≡ all → (list_any (λ l. list_any is_bad_byte l.1) rest ≡ true)
    × (first_bad rest ≡ all)
passed_over n line lines rest all are none some same =
    let good : list_any is_bad_byte line ≡ false = none_found is_bad_byte line none in
    (rw good at (rw are at some), rw good at (rw are at same))

-- a fault by a bad byte is in a line that has one
pub bad_in_line : (n : ℕ) (st : After) (lines : List (ℕ × List ℕ)) → first_fault st lines
    ≡ Some (n, 1) → list_any (λ l. list_any is_bad_byte l.1) lines ≡ true
bad_in_line n st [] is = cc
bad_in_line n st (x ∷ xs) is =
    elim (at_line x.0 n 1 (line_code st x.1) (first_fault (then_line x.1 st) xs) is) [
      | inl here ↦ rw (bad_by (list_any is_bad_byte x.1) st x.1 here.1) refl
      | inr later ↦ rw (bad_in_line n (then_line x.1 st) xs later.1)
          (or-true (list_any is_bad_byte x.1))
    ]
  where
    bad_by : (bad : Bool) (st : After) (line : List ℕ)
        → cond bad (Some 1) (code_of (opened (kind_of_line line) st) line) ≡ Some 1 → bad ≡ true
    bad_by true st line is = refl
    bad_by false st line is = absurd (not_one (opened (kind_of_line line) st) (kind_of_line line)
        (arguments line) (without_blanks line) is)

has_bad : ℕ × List ℕ → Bool
has_bad line = list_any is_bad_byte line.1

-- joining lines adds no bad byte
bad_onto : (n : ℕ) (line : List ℕ) (lines : List (ℕ × List ℕ))
    → list_any has_bad (onto_next n line lines) ≡ true
    → (list_any is_bad_byte line || list_any has_bad lines) ≡ true
unfolding has_bad
bad_onto n line [] bad = bad
bad_onto n line (next ∷ more) bad =
    let first : list_any is_bad_byte (line ++ next.1) ≡ (list_any is_bad_byte line
    || list_any is_bad_byte next.1) = list_any-append is_bad_byte line next.1 in
    three (list_any is_bad_byte line) (list_any is_bad_byte next.1)
    (list_any (λ l. list_any is_bad_byte l.1) more) (rw first at bad)
  where
    three : (a b c : Bool) → ((a || b) || c) ≡ true → (a || (b || c)) ≡ true
    three true b c e = refl
    three false b c e = e

bad_spaced : (line : List ℕ) → list_any is_bad_byte (spaced line) ≡ true → list_any is_bad_byte line
    ≡ true
bad_spaced line bad = taken (length line - 1) line
    (alone (list_any is_bad_byte (take (length line - 1) line))
    (sym (list_any-append is_bad_byte (take (length line - 1) line) (32 ∷ [])) ∙ bad))
  where
    taken : (i : ℕ) (xs : List ℕ) → list_any is_bad_byte (take i xs) ≡ true
        → list_any is_bad_byte xs ≡ true
    taken zero xs some = cc
    taken (suc i) [] some = some
    taken (suc i) (x ∷ xs) some = elim (or_cases (is_bad_byte x) (list_any is_bad_byte (take i xs))
        some) [
          | inl here ↦ rw here refl
          | inr there ↦ rw (taken i xs there) (or-true (is_bad_byte x))
        ]

bad_joined : (lines : List (ℕ × List ℕ)) → list_any has_bad (joined lines) ≡ true
    → list_any has_bad lines ≡ true
unfolding has_bad
bad_joined [] bad = bad
bad_joined (line ∷ lines) bad = elim (cases_Bool (continues line.1)) [
  | inl more ↦ elim (or_cases (list_any is_bad_byte (spaced line.1))
      (list_any has_bad (joined lines)) (bad_onto line.0 (spaced line.1) (joined lines)
      (rw more at bad))) [
        | inl here ↦ rw (bad_spaced line.1 here) refl
        | inr there ↦ rw (bad_joined lines there) (or-true (list_any is_bad_byte line.1))
      ]
  | inr last ↦ elim (or_cases (list_any is_bad_byte line.1) (list_any has_bad (joined lines))
      (rw last at bad)) [
        | inl here ↦ rw here refl
        | inr there ↦ rw (bad_joined lines there) (or-true (list_any is_bad_byte line.1))
      ]
]

bad_seen : (lines : List (ℕ × List ℕ)) → list_any has_bad (filter is_seen lines) ≡ true
    → list_any has_bad lines ≡ true
unfolding has_bad
bad_seen [] bad = bad
bad_seen (line ∷ lines) bad = elim (cases_Bool (is_seen line)) [
  | inl seen ↦ elim (or_cases (list_any is_bad_byte line.1)
      (list_any has_bad (filter is_seen lines)) (rw seen at bad)) [
        | inl here ↦ rw here refl
        | inr there ↦ rw (bad_seen lines there) (or-true (list_any is_bad_byte line.1))
      ]
  | inr blank ↦ rw (bad_seen lines (rw blank at bad)) (or-true (list_any is_bad_byte line.1))
]

-- a text whose logical lines have a bad byte has one in a physical line
pub bad_in_text : (n : ℕ) (text : List ℕ) → first_fault start (logical_lines text) ≡ Some (n, 1)
    → list_any (λ l. list_any is_bad_byte l.1) (numbered 1 text) ≡ true
unfolding has_bad
bad_in_text n text is = bad_joined (numbered 1 text) (bad_seen (joined (numbered 1 text))
    (bad_in_line n start (logical_lines text) is))
