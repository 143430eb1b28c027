-- The words of a line, and the line without its blanks.
use Rattle.std.proofs.Common.{◌≡◌, ℕ, suc, ◌+◌, ◌-◌, ◌<◌, ◌≤◌, Bool, false, not, List, [], ◌∷◌}
use Rattle.std.proofs.Common.{◌++◌, length, take, drop, filter, refl, sym, ◌∙◌, ap, arith, eqb, inl}
use Rattle.std.proofs.Common.{inr}
use Rattle.std.specs.List.{position_or_len, before_first, after_first}
use Rattle.std.proofs.lemmas.List.{take_rest, take_all, drop_all, length-take-le}
use Rattle.std.proofs.lemmas.List.Sums.{fails_before_first}
use Rattle.std.proofs.lemmas.List.Filters.{length-filter_both}
use Rattle.std.proofs.lemmas.List.Splits.{slice_split_none, slice_split_first}
use Rattle.std.proofs.lemmas.Bool.{cases_Bool, ne_eqb}
use Rattle.eqc_blif.specs.Lines.{is_blank}
use Rattle.eqc_blif.specs.Words.{words, without_blanks}

-- the first word of a line, where a blank stands behind it
pub first_word : (line : List ℕ) (end : ℕ) → end ≡ position_or_len is_blank line → end < length line
    → 0 < end
    → words line ≡ take end line ∷ words (take (length line - (end + 1)) (drop (end + 1) line))
first_word line end is inside some =
    let within : position_or_len is_blank line < length line = omega arith in
    let long : eqb (length (take (position_or_len is_blank line) line)) 0 ≡ false =
    rw (length-take-le (position_or_len is_blank line) line (omega arith))
    (ne_eqb _ 0 (omega arith)) in
    rw (take_rest line (end + 1), is, slice_split_first is_blank line 0 within, long) refl

-- a line that is one word
pub only_word : (line : List ℕ) (end : ℕ) → end ≡ position_or_len is_blank line → length line ≤ end
    → (length line ≡ 0 → ⊥) → words line ≡ line ∷ []
only_word line end is past some =
    let long : eqb (length line) 0 ≡ false = ne_eqb (length line) 0 some in
    rw (
      slice_split_none is_blank line (λ k d l. fails_before_first is_blank line k d
          (omega arith)),
      long,
    ) refl

-- what stays without the bytes that pass is what stands before the first of them, and what stays of
-- what stands behind
cut_filter : (p : ℕ → Bool) (xs : List ℕ) → filter (λ x. not (p x)) xs ≡ before_first p xs
    ++ filter (λ x. not (p x)) (after_first p xs)
cut_filter p [] = refl
cut_filter p (x ∷ xs) = elim (cases_Bool (p x)) [
  | inl passes ↦ rw passes refl
  | inr stays ↦
      let one : 1 + position_or_len p xs ≡ suc (position_or_len p xs) = omega arith in
      let two : suc (position_or_len p xs) + 1 ≡ suc (position_or_len p xs + 1) = omega arith in
      rw (stays, one, two) (ap (λ r. x ∷ r) (cut_filter p xs))
]

-- the blanks of a line behind its first word
pub first_blanks : (line : List ℕ) (end : ℕ) → end ≡ position_or_len is_blank line
    → without_blanks line ≡ take end line ++ without_blanks (take (length line - (end + 1))
    (drop (end + 1) line))
first_blanks line end is = rw (take_rest line (end + 1), is) (cut_filter is_blank line)

-- a line that begins with a blank
pub leading_blank : (line : List ℕ) (end : ℕ) → end ≡ position_or_len is_blank line → end ≤ 0
    → without_blanks line ≡ without_blanks (take (length line - 1) (drop 1 line))
leading_blank line end is none =
    let zero_end : end ≡ 0 = omega arith in
    let begins : position_or_len is_blank line ≡ 0 = sym is ∙ zero_end in
    rw (take_rest line 1) (cut_filter is_blank line ∙ rw begins refl)

-- a line without blanks
pub only_blanks : (line : List ℕ) (end : ℕ) → end ≡ position_or_len is_blank line
    → length line ≤ end → without_blanks line ≡ line ++ []
only_blanks line end is past =
    let beyond : length line ≤ position_or_len is_blank line = omega arith in
    let beyond_one : length line ≤ position_or_len is_blank line + 1 = omega arith in
    cut_filter is_blank line ∙ rw (
      take_all (position_or_len is_blank line) line beyond,
      drop_all (position_or_len is_blank line + 1) line beyond_one,
    ) refl

-- a line is no shorter than what is left without its blanks
pub left_short : (line : List ℕ) → length (without_blanks line) ≤ length line
left_short line = omega (
  arith,
  length-filter_both is_blank (λ byte. not (is_blank byte))
      (λ byte. refl) line,
)
