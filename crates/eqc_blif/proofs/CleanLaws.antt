-- What is cut off a line.
use Rattle.std.proofs.Common.{◌≡◌, ℕ, zero, suc, ◌+◌, ◌-◌, ◌≤◌, Bool, true, List, [], ◌∷◌, ◌++◌}
use Rattle.std.proofs.Common.{length, take, eqb, refl, sym, ◌∙◌, ap, arith, inl, inr, append_assoc}
use Rattle.std.specs.List.{prefix_len, position_or_len, before_first, suffix_len, list_all}
use Rattle.std.proofs.lemmas.List.{reverse-append, length_push, take-append-le, append-nil}
use Rattle.std.proofs.lemmas.Bool.{cases_Bool, and_parts}
use Rattle.eqc_blif.specs.Lines.{is_trailing, trimmed}
use Rattle.eqc_blif.specs.Laws.{CommentsChangeNothing, TrailingBlanksChangeNothing}

-- what follows the first byte that passes plays no part
pub before_cut : (p : ℕ → Bool) (mark : ℕ) (xs ys : List ℕ) → p mark ≡ true
    → before_first p (xs ++ mark ∷ ys) ≡ before_first p xs
before_cut p mark [] ys passes = rw passes refl
before_cut p mark (x ∷ xs) ys passes = elim (cases_Bool (p x)) [
  | inl here ↦ rw here refl
  | inr later ↦
      let one : 1 + position_or_len p (xs ++ mark ∷ ys)
      ≡ suc (position_or_len p (xs ++ mark ∷ ys)) = omega arith in
      let two : 1 + position_or_len p xs ≡ suc (position_or_len p xs) = omega arith in
      rw (later, one, two) (ap (λ rest. x ∷ rest) (before_cut p mark xs ys passes))
]

pub comments_change_nothing : CommentsChangeNothing
comments_change_nothing line comment = ap trimmed (before_cut (λ byte. eqb byte 35) 35 line comment
    refl)

taken_pass : (p : ℕ → Bool) (n : ℕ) (xs : List ℕ) → list_all p xs ≡ true → list_all p (take n xs)
    ≡ true
taken_pass p zero xs all = refl
taken_pass p (suc n) [] all = refl
taken_pass p (suc n) (x ∷ xs) all =
    let parts = and_parts (p x) (list_all p xs) all in
    rw (parts.0, taken_pass p n xs parts.1) refl

-- what stands before the first byte that passes, with a part of what follows
before_more : (p q : ℕ → Bool) (xs ys : List ℕ) → list_all q ys ≡ true → (tail : List ℕ)
    × (list_all q tail ≡ true) × (before_first p (xs ++ ys) ≡ before_first p xs ++ tail)
before_more p q [] ys all = (before_first p ys, taken_pass q (position_or_len p ys) ys all, refl)
before_more p q (x ∷ xs) ys all = elim (cases_Bool (p x)) [
  | inl here ↦ ([], refl, rw here refl)
  | inr later ↦
      let more = before_more p q xs ys all in
      let one : 1 + position_or_len p (xs ++ ys) ≡ suc (position_or_len p (xs ++ ys)) =
      omega arith in
      let two : 1 + position_or_len p xs ≡ suc (position_or_len p xs) = omega arith in
      (more.0, more.1, rw (later, one, two) (ap (λ rest. x ∷ rest) more.2))
]

-- a byte that is cut off from the end
trimmed_push : (xs : List ℕ) (x : ℕ) → is_trailing x ≡ true → trimmed (xs ++ x ∷ []) ≡ trimmed xs
trimmed_push xs x cut =
    let turned : suffix_len is_trailing (xs ++ x ∷ []) ≡ 1 + suffix_len is_trailing xs =
    ap (prefix_len is_trailing) (reverse-append xs (x ∷ [])) ∙ rw cut refl in
    let left : length (xs ++ x ∷ []) - suffix_len is_trailing (xs ++ x ∷ [])
    ≡ length xs - suffix_len is_trailing xs = omega (arith, length_push xs x, turned) in
    let within : length xs - suffix_len is_trailing xs ≤ length xs = omega arith in
    rw left (take-append-le (length xs - suffix_len is_trailing xs) xs (x ∷ []) within)

trimmed_more : (xs ys : List ℕ) → list_all is_trailing ys ≡ true → trimmed (xs ++ ys) ≡ trimmed xs
trimmed_more xs [] all = ap trimmed (append-nil xs)
trimmed_more xs (y ∷ ys) all =
    let parts = and_parts (is_trailing y) (list_all is_trailing ys) all in
    ap trimmed (sym (append_assoc xs (y ∷ []) ys)) ∙ (trimmed_more (xs ++ y ∷ []) ys parts.1
    ∙ trimmed_push xs y parts.0)

pub trailing_blanks_change_nothing : TrailingBlanksChangeNothing
trailing_blanks_change_nothing line blanks all =
    let more = before_more (λ byte. eqb byte 35) is_trailing line blanks all in
    ap trimmed more.2 ∙ trimmed_more (before_first (λ byte. eqb byte 35) line) more.0 more.1
