-- Keys that are put into a list in which each stands once, and what a list that grew has.
use Rattle.std.proofs.Common.{◌≡◌, ◌⊎◌, ℕ, ◌+◌, ◌<◌, Bool, true, false, cond, List, [], ◌∷◌, ◌++◌}
use Rattle.std.proofs.Common.{length, get_or, refl, sym, ◌∙◌, ap, subst, arith, inl, inr}
use Rattle.std.proofs.Common.{length-append}
use Rattle.std.specs.List.{list_any, position_or_len}
use Rattle.std.specs.Bool.{Decides}
use Rattle.std.proofs.Math.ListN.{get_or-append}
use Rattle.std.proofs.Math.Seq.{get_or-append_seam}
use Rattle.std.proofs.lemmas.Bool.{true≢false, false≢true, cases_eq}
use Rattle.std.proofs.lemmas.List.Folds.{list_any_at}
use Rattle.std.proofs.lemmas.List.Sums.{passes_at_first}
use Rattle.eqc_strash.specs.Tables.{AreApart, Grows, Stands}

-- ---- what grew

pub grows_not : {X : Type 0} (d : X) (xs : List X) (n : ℕ) → Grows d xs xs n
grows_not d xs n = record { kept = λ i h. refl; longer = omega arith; few = omega arith }

pub grows_one : {X : Type 0} (d : X) (xs : List X) (x : X) → Grows d xs (xs ++ x ∷ []) 1
grows_one d xs x = record {
  kept = λ i h. get_or-append xs (x ∷ []) d i h;
  longer = omega (arith, length-append xs (x ∷ []));
  few = omega (arith, length-append xs (x ∷ []));
}

pub grows_more : {X : Type 0} (d : X) (xs ys zs : List X) (n m : ℕ) → Grows d xs ys n
    → Grows d ys zs m → Grows d xs zs (n + m)
grows_more d xs ys zs n m g h = record {
  kept = λ i less. h.kept i (omega (arith, less, g.longer)) ∙ g.kept i less;
  longer = omega (arith, g.longer, h.longer);
  few = omega (arith, g.few, h.few);
}

pub stands_still : {X : Type 0} (d : X) (xs ys : List X) (n k : ℕ) (x : X) → Grows d xs ys n
    → Stands d xs k x → Stands d ys k x
stands_still d xs ys n k x g h = record {
  within = omega (arith, h.within, g.longer);
  at =
      g.kept k h.within ∙ h.at;
}

pub stands_last : {X : Type 0} (d : X) (xs : List X) (x : X) → Stands d (xs ++ x ∷ []) (length xs) x
stands_last d xs x = record {
  within = omega (arith, length-append xs (x ∷ []));
  at =
      get_or-append_seam xs x [] d;
}

-- an element that was not there
pub apart_more : {X : Type 0} (d : X) (xs : List X) (x : X) → AreApart d xs
    → ((i : ℕ) → i < length xs → get_or xs i d ≡ x → ⊥) → AreApart d (xs ++ x ∷ [])
apart_more d xs x h absent = record {
  apart = λ i j less below same. by i j less below same
      (cases_eq i (length xs)) (cases_eq j (length xs));
}
  where
    within : (i : ℕ) → i < length (xs ++ x ∷ []) → (i ≡ length xs → ⊥) → i < length xs
    within i less other = omega (arith, less, length-append xs (x ∷ []), other)

    there : (i : ℕ) → i < length (xs ++ x ∷ []) → (i ≡ length xs → ⊥) → get_or (xs ++ x ∷ []) i d
        ≡ get_or xs i d
    there i less other = get_or-append xs (x ∷ []) d i (within i less other)

    last : (i : ℕ) → i ≡ length xs → get_or (xs ++ x ∷ []) i d ≡ x
    last i e = ap (λ k. get_or (xs ++ x ∷ []) k d) e ∙ get_or-append_seam xs x [] d

    by : (i j : ℕ) → i < length (xs ++ x ∷ []) → j < length (xs ++ x ∷ [])
        → get_or (xs ++ x ∷ []) i d ≡ get_or (xs ++ x ∷ []) j d
        → (i ≡ length xs) ⊎ (i ≡ length xs → ⊥) → (j ≡ length xs) ⊎ (j ≡ length xs → ⊥) → i ≡ j
    by i j less below same (inl e) (inl f) = e ∙ sym f
    by i j less below same (inl e) (inr other) =
        absurd (absent j (within j below other) (sym (there j below other) ∙ (sym same ∙ last i e)))
    by i j less below same (inr other) (inl f) =
        absurd (absent i (within i less other) (sym (there i less other) ∙ (same ∙ last j f)))
    by i j less below same (inr other) (inr another) =
        h.apart i j (within i less other) (within j below another) (sym (there i less other)
        ∙ (same ∙ there j below another))

-- ---- keys

first_there : {X : Type 0} (p : X → Bool) (xs : List X) → list_any p xs ≡ true
    → position_or_len p xs < length xs
first_there p [] e = absurd (false≢true e)
first_there p (x ∷ xs) e = by (p x) refl (first_there p xs)
  where
    by : (b : Bool) → p x ≡ b → (list_any p xs ≡ true → position_or_len p xs < length xs)
        → position_or_len p (x ∷ xs) < length (x ∷ xs)
    by true h later = rw h (omega arith)
    by false h later =
        let rest : list_any p xs ≡ true = rw h at e in
        let less : position_or_len p xs < length xs = later rest in
        rw h (omega (arith, less))

none_there : {X : Type 0} (p : X → Bool) (xs : List X) → list_any p xs ≡ false
    → position_or_len p xs ≡ length xs
none_there p [] e = refl
none_there p (x ∷ xs) e = by (p x) refl (none_there p xs)
  where
    by : (b : Bool) → p x ≡ b → (list_any p xs ≡ false → position_or_len p xs ≡ length xs)
        → position_or_len p (x ∷ xs) ≡ length (x ∷ xs)
    by true h later = absurd (true≢false (rw h at e))
    by false h later =
        let rest : list_any p xs ≡ false = rw h at e in
        let same : position_or_len p xs ≡ length xs = later rest in
        rw h (omega (arith, same))

module _ {X : Type 0} (E : X → X → Bool) (decides : (x y : X) → Decides (E x y) (x ≡ y)) where
  -- the list is as it was, or has the key at its end
  new_keys : (keys new : List X) (k : X) (b : Bool) → new ≡ cond (list_any (E k) keys) keys (keys
      ++ k ∷ []) → list_any (E k) keys ≡ b → new ≡ cond b keys (keys ++ k ∷ [])
  new_keys keys new k b e h = e ∙ ap (λ c. cond c keys (keys ++ k ∷ [])) h

  pub put_grows : (d : X) (keys new : List X) (k : X) → new ≡ cond (list_any (E k) keys) keys (keys
      ++ k ∷ []) → Grows d keys new 1
  put_grows d keys new k e = by (list_any (E k) keys) refl
    where
      by : (b : Bool) → list_any (E k) keys ≡ b → Grows d keys new 1
      by true h = subst (λ l. Grows d keys l 1) (sym (new_keys keys new k true e h))
          (grows_not d keys 1)
      by false h = subst (λ l. Grows d keys l 1) (sym (new_keys keys new k false e h))
          (grows_one d keys k)

  pub put_stands : (d : X) (keys new : List X) (k : X) (i : ℕ)
      → new ≡ cond (list_any (E k) keys) keys (keys ++ k ∷ []) → i ≡ position_or_len (E k) keys
      → Stands d new i k
  put_stands d keys new k i e at = by (list_any (E k) keys) refl
    where
      by : (b : Bool) → list_any (E k) keys ≡ b → Stands d new i k
      by true h =
          let less = first_there (E k) keys h in
          let here : Stands d keys (position_or_len (E k) keys) k = record {
            within = less;
            at = sym ((decides k (get_or keys (position_or_len (E k) keys) d)).0
                (passes_at_first (E k) keys d less));
          } in
          let there : Stands d keys i k = subst (λ j. Stands d keys j k) (sym at) here in
          subst (λ l. Stands d l i k) (sym (new_keys keys new k true e h)) there
      by false h =
          let there : Stands d (keys ++ k ∷ []) i k = subst (λ j. Stands d (keys ++ k ∷ []) j k)
          (sym (at ∙ none_there (E k) keys h)) (stands_last d keys k) in
          subst (λ l. Stands d l i k) (sym (new_keys keys new k false e h)) there

  -- a key that no test finds is not there
  pub not_there : (d : X) (keys : List X) (k : X) → list_any (E k) keys ≡ false → (i : ℕ)
      → i < length keys → get_or keys i d ≡ k → ⊥
  not_there d keys k h i less same =
      true≢false (sym (list_any_at (E k) keys i d less ((decides k (get_or keys i d)).1 (sym same)))
      ∙ h)

  pub put_apart : (d : X) (keys new : List X) (k : X) → new ≡ cond (list_any (E k) keys) keys (keys
      ++ k ∷ []) → AreApart d keys → AreApart d new
  put_apart d keys new k e apart = by (list_any (E k) keys) refl
    where
      by : (b : Bool) → list_any (E k) keys ≡ b → AreApart d new
      by true h = subst (λ l. AreApart d l) (sym (new_keys keys new k true e h)) apart
      by false h = subst (λ l. AreApart d l) (sym (new_keys keys new k false e h))
          (apart_more d keys k apart (not_there d keys k h))
