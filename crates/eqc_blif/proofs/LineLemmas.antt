-- Cutting and joining lines.
use Rattle.std.proofs.Common.{◌≡◌, ℕ, suc, ◌+◌, ◌-◌, ◌<◌, ◌≤◌, Bool, true, false, List, [], ◌∷◌}
use Rattle.std.proofs.Common.{◌++◌, length, take, drop, refl, sym, ◌∙◌, ap, arith, eqb}
use Rattle.std.proofs.Common.{append_assoc}
use Rattle.std.specs.List.{position_or_len, before_first}
use Rattle.std.proofs.lemmas.List.{take_all}
use Rattle.std.proofs.lemmas.List.Sums.{fails_before_first}
use Rattle.std.proofs.lemmas.List.Splits.{slice_split_none, slice_split_first}
use Rattle.std.proofs.lemmas.Bool.{cases_Bool}
use Rattle.std.proofs.Common.{inl, inr}
use Rattle.std.specs.Option.{option_copied}
use Rattle.std.specs.Prelude.{Option, Some}
use Rattle.std.specs.Borrow.{Bor}
use Rattle.std.proofs.lemmas.List.{take_rest}
use Rattle.eqc_blif.specs.Steps.{is_mark, numbered_rest}
use Rattle.eqc_blif.specs.Lines.{trimmed, clean, continues, spaced, onto_next, joined, numbered}

is_lf : ℕ → Bool
is_lf b = eqb b 10

pub cut_line : (n : ℕ) (text : List ℕ) → position_or_len (λ b. eqb b 10) text < length text
    → numbered n text
    ≡ (n, clean (take (position_or_len (λ b. eqb b 10) text) text))
    ∷ numbered (n + 1) (drop (position_or_len (λ b. eqb b 10) text + 1) text)
cut_line n text h = rw (slice_split_first (λ b. eqb b 10) text 0 h) refl

pub last_line : (n : ℕ) (text : List ℕ) → length text ≤ position_or_len (λ b. eqb b 10) text
    → numbered n text ≡ (n, clean (take (position_or_len (λ b. eqb b 10) text) text)) ∷ []
last_line n text h = rw (
  slice_split_none (λ b. eqb b 10) text (λ k d l. fails_before_first
      (λ b. eqb b 10) text k d (omega arith)),
  take_all (position_or_len (λ b. eqb b 10) text) text h,
)
    refl

-- a reader at a line that ends in LF
pub next_cut : (n : ℕ) (rest : Option (Bor (List ℕ))) (text : Bor (List ℕ)) (piece : List ℕ)
    (end : ℕ) (old new : List (ℕ × List ℕ))
    → numbered_rest n (option_copied rest) ≡ old → rest ≡ Some text
    → end ≡ position_or_len (λ b. eqb b 10) text.now
    → end < length text.now → piece ≡ clean (take end text.now)
    → new ≡ numbered (n + 1) (take (length text.now - (end + 1)) (drop (end + 1) text.now))
    → old ≡ (n, piece) ∷ new
next_cut n rest text piece end old new seen is at_end inside cleaned left =
    let seen_text : numbered n text.now ≡ old = rw is at seen in
    let within : position_or_len (λ b. eqb b 10) text.now < length text.now = omega arith in
    sym seen_text ∙ (cut_line n text.now within
    ∙ rw (
      left,
      cleaned,
      at_end,
      take_rest text.now (position_or_len (λ b. eqb b 10) text.now
          + 1),
    ) refl)

-- a reader at the last line
pub next_last : (n : ℕ) (rest : Option (Bor (List ℕ))) (text : Bor (List ℕ)) (piece : List ℕ)
    (end : ℕ) (old new : List (ℕ × List ℕ))
    → numbered_rest n (option_copied rest) ≡ old → rest ≡ Some text
    → end ≡ position_or_len (λ b. eqb b 10) text.now
    → length text.now ≤ end → piece ≡ clean (take end text.now) → new ≡ [] → old ≡ (n, piece) ∷ new
next_last n rest text piece end old new seen is at_end past cleaned left =
    let seen_text : numbered n text.now ≡ old = rw is at seen in
    let beyond : length text.now ≤ position_or_len (λ b. eqb b 10) text.now = omega arith in
    sym seen_text ∙ (last_line n text.now beyond ∙ rw (left, cleaned, at_end) refl)

-- what is joined onto a line that is itself joined onto
onto_onto : (n m : ℕ) (front line : List ℕ) (lines : List (ℕ × List ℕ))
    → onto_next n front (onto_next m line lines) ≡ onto_next n (front ++ line) lines
onto_onto n m front line [] = refl
onto_onto n m front line (next ∷ more) =
    ap (λ bytes. (n, bytes) ∷ more) (sym (append_assoc front line next.1))

-- the number of a line that is joined onto another plays no part
onto_renumbered : (n k j : ℕ) (front line : List ℕ) (lines : List (ℕ × List ℕ))
    → onto_next n front (joined ((k, line) ∷ lines))
    ≡ onto_next n front (joined ((j, line) ∷ lines))
onto_renumbered n k j front line lines = elim (cases_Bool (continues line)) [
  | inl more ↦ rw (
    more,
    onto_onto n k front (spaced line) (joined lines),
    onto_onto n j front (spaced line) (joined lines),
  ) refl
  | inr last ↦ rw last refl
]

pub join_more : (n m k j : ℕ) (front front' line next : List ℕ) (old new : List (ℕ × List ℕ))
    → continues line ≡ true
    → old ≡ (k, next) ∷ new → front' ≡ front ++ spaced line
    → onto_next n front' (joined ((j, next) ∷ new)) ≡ onto_next n front (joined ((m, line) ∷ old))
join_more n m k j front front' line next old new more is is' =
    rw (is, is', more, onto_onto n m front (spaced line)) (onto_renumbered n j k (front
    ++ spaced line) next new)

pub join_last : (n m : ℕ) (front front' line : List ℕ) (old new : List (ℕ × List ℕ))
    → continues line ≡ true
    → (old ≡ []) × (new ≡ []) → front' ≡ front ++ spaced line
    → onto_next n front (joined ((m, line) ∷ old)) ≡ (n, front') ∷ joined new
join_last n m front front' line old new more none is' = rw (none.0, none.1, is', more) refl

pub join_end : (n m : ℕ) (front front' line : List ℕ) (old : List (ℕ × List ℕ))
    → continues line ≡ false → front' ≡ front ++ line
    → onto_next n front (joined ((m, line) ∷ old)) ≡ (n, front') ∷ joined old
join_end n m front front' line old last is' = rw (is', last) refl

-- a line that was pushed in two parts
pub pushed_space : (front line mid all : List ℕ) → mid ≡ front ++ take (length line - 1) line
    → all ≡ mid ++ 32 ∷ [] → all ≡ front ++ spaced line
pushed_space front line mid all first second = second ∙ (ap (λ b. b ++ 32 ∷ []) first
    ∙ append_assoc front (take (length line - 1) line) (32 ∷ []))

-- the LF of a text stands at its first LF or `#`, or behind that
line_end_behind : (text : List ℕ) → position_or_len (λ b. eqb b 10) text ≡ position_or_len is_mark
    text + position_or_len (λ b. eqb b 10) (drop (position_or_len is_mark text) text)
line_end_behind [] = refl
line_end_behind (b ∷ text) = elim (cases_Bool (eqb b 10)) [
  | inl lf ↦ rw lf (rw lf refl)
  | inr other ↦ elim (cases_Bool (eqb b 35)) [
    | inl hash ↦ rw (other, hash) (rw other (omega arith))
    | inr neither ↦
        let one : 1 + position_or_len is_mark text ≡ suc (position_or_len is_mark text) =
        omega arith in
        rw (other, neither, one) (omega (arith, line_end_behind text))
  ]
]

-- what stands before `#` in a line is what stands before the first LF or `#` of the text
before_mark : (text : List ℕ)
    → before_first (λ b. eqb b 35) (take (position_or_len (λ b. eqb b 10) text) text)
    ≡ take (position_or_len is_mark text) text
before_mark [] = refl
before_mark (b ∷ text) = elim (cases_Bool (eqb b 10)) [
  | inl lf ↦ rw lf refl
  | inr other ↦
      let one : 1 + position_or_len (λ b. eqb b 10) text
      ≡ suc (position_or_len (λ b. eqb b 10) text) = omega arith in
      elim (cases_Bool (eqb b 35)) [
        | inl hash ↦ rw (other, one, hash) refl
        | inr neither ↦
            let two : 1 + position_or_len is_mark text ≡ suc (position_or_len is_mark text) =
            omega arith in
            let three :
            1 + position_or_len (λ b. eqb b 35) (take (position_or_len (λ b. eqb b 10) text) text)
            ≡ suc (position_or_len (λ b. eqb b 35) (take (position_or_len (λ b. eqb b 10) text)
            text)) =
            omega arith in
            rw (other, one, neither, two, three) (ap (λ line. b ∷ line) (before_mark text))
      ]
]

-- the end of a line, found behind its mark
pub end_behind : (text : List ℕ) (mark more : ℕ) → mark ≡ position_or_len is_mark text
    → more ≡ position_or_len (λ b. eqb b 10) (take (length text - mark) (drop mark text))
    → mark + more ≡ position_or_len (λ b. eqb b 10) text
end_behind text mark more at behind = rw (behind, take_rest text mark, at)
    (sym (line_end_behind text))

-- a line that is cut at its mark and trimmed is clean
pub cut_clean : (text line : List ℕ) (mark end : ℕ) → mark ≡ position_or_len is_mark text
    → end ≡ position_or_len (λ b. eqb b 10) text → line ≡ trimmed (take mark text)
    → line ≡ clean (take end text)
cut_clean text line mark end at ends cut = cut ∙ rw (at, ends) (ap trimmed (sym (before_mark text)))
