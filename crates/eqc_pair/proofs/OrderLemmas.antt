-- A text that is cut at its first separator.
use Rattle.std.proofs.Common.{◌≡◌, ℕ, ◌+◌, ◌<◌, ◌≤◌, Bool, true, false, List, [], ◌∷◌, ◌++◌, length}
use Rattle.std.proofs.Common.{take, drop, filter, refl, sym, ap, ◌∙◌, arith, append_assoc}
use Rattle.std.proofs.Common.{append-nil}
use Rattle.std.specs.List.{slice_split, position_or_len, flat_map}
use Rattle.std.proofs.lemmas.List.{take_all}
use Rattle.std.proofs.lemmas.List.Sums.{fails_before_first}
use Rattle.std.proofs.lemmas.List.Splits.{slice_split_none, slice_split_first}
use Rattle.eqc_pair.specs.Matched.{is_word}

-- the parts of a text where a separator is left
part_more : (p : ℕ → Bool) (text : List ℕ) (end : ℕ) → end ≡ position_or_len p text
    → end < length text → slice_split p text ≡ take end text ∷ slice_split p (drop (end + 1) text)
part_more p text end is inside =
    let within : position_or_len p text < length text = omega arith in
    rw is (slice_split_first p text 0 within)

-- the one part of a text without one
part_last : (p : ℕ → Bool) (text : List ℕ) (end : ℕ) → end ≡ position_or_len p text
    → length text ≤ end → slice_split p text ≡ take end text ∷ []
part_last p text end is past = slice_split_none p text (λ k d l. fails_before_first p text k d
    (omega arith)) ∙ ap (λ part. part ∷ []) (sym (take_all end text past))

module _ {W : Type 0} (each : List (List ℕ) → List W) (joins : (x : List ℕ) (xs : List (List ℕ))
    → each (x ∷ xs) ≡ each (x ∷ []) ++ each xs)
    (p : ℕ → Bool) (before after all : List W) (text : List ℕ) (end : ℕ) where
  -- what is made of the parts so far and of those that are left
  pub made_more : (others : List ℕ) → end ≡ position_or_len p text → (end < length text)
      × (others ≡ drop (end + 1) text) →
      before ++ each (slice_split p text) ≡ all → after ≡ before ++ each (take end text ∷ [])
      → after ++ each (slice_split p others) ≡ all
  made_more others is inside made grown =
      let rest = slice_split p (drop (end + 1) text) in
      ap (λ l. after ++ each (slice_split p l)) inside.1 ∙
      (ap (λ l. l ++ each rest) grown
      ∙ (append_assoc before (each (take end text ∷ [])) (each rest)
      ∙ (ap (λ l. before ++ l) (sym (joins (take end text) rest)
      ∙ sym (ap each (part_more p text end is inside.0))) ∙ made)))

  pub made_last : end ≡ position_or_len p text → length text ≤ end
      → before ++ each (slice_split p text) ≡ all → after ≡ before ++ each (take end text ∷ [])
      → after ≡ all
  made_last is past made grown = grown
      ∙ (ap (λ parts. before ++ each parts) (sym (part_last p text end is past)) ∙ made)

pub filter_joins : (x : List ℕ) (xs : List (List ℕ)) → filter is_word (x ∷ xs)
    ≡ filter is_word (x ∷ []) ++ filter is_word xs
filter_joins x xs = by (is_word x) refl
  where
    by : (b : Bool) → is_word x ≡ b → filter is_word (x ∷ xs) ≡ filter is_word (x ∷ [])
        ++ filter is_word xs
    by true e = rw e refl
    by false e = rw e refl

pub flat_joins : (f : List ℕ → List (List ℕ)) (x : List ℕ) (xs : List (List ℕ))
    → flat_map f (x ∷ xs) ≡ flat_map f (x ∷ []) ++ flat_map f xs
flat_joins f x xs = sym (ap (λ l. l ++ flat_map f xs) (append-nil (f x)))
