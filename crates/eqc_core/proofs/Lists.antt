-- Lists read by place: after a write, past the end, and beside one more element.
use Rattle.std.proofs.Common.{◌≡◌, ◌≢◌, ◌⊎◌, ℕ, zero, suc, ◌<◌, ◌≤◌, List, [], ◌∷◌, length, set}
use Rattle.std.proofs.Common.{get_or, refl, sym, ap, ◌∙◌, arith, inl, inr, ⊎_elim}
use mathlib.Core.Option.{some, some-injective, some-ne-none}
use lib.ListN.{get_elem?}

module _ {A : Type 0} where
  -- a place holds what was written there, or what it held
  pub at_set : (l : List A) (i j : ℕ) (a b : A) → get_elem? (set l i a) j ≡ some b
      → ((j ≡ i) × (a ≡ b)) ⊎ ((j ≢ i) × (get_elem? l j ≡ some b))
  at_set [] i j a b e = absurd (some-ne-none b (sym e))
  at_set (x ∷ xs) zero zero a b e = inl (refl, some-injective a b e)
  at_set (x ∷ xs) zero (suc j) a b e = inr ((λ h. omega arith), e)
  at_set (x ∷ xs) (suc i) zero a b e = inr ((λ h. omega arith), e)
  at_set (x ∷ xs) (suc i) (suc j) a b e = ⊎_elim (λ t. inl (ap suc t.0, t.1)) (λ t. let n = t.0 in
      inr ((λ h. n (omega arith)), t.1)) (at_set xs i j a b e)

  pub at_below : (l : List A) (i : ℕ) (a : A) → get_elem? l i ≡ some a → i < length l
  at_below [] i a e = absurd (some-ne-none a (sym e))
  at_below (x ∷ xs) zero a e = omega arith
  at_below (x ∷ xs) (suc i) a e = let r = at_below xs i a e in omega arith

  pub at_get : (l : List A) (i : ℕ) (a d : A) → get_elem? l i ≡ some a → get_or l i d ≡ a
  at_get [] i a d e = absurd (some-ne-none a (sym e))
  at_get (x ∷ xs) zero a d e = some-injective x a e
  at_get (x ∷ xs) (suc i) a d e = at_get xs i a d e

  pub get_at : (l : List A) (i : ℕ) (d : A) → i < length l → get_elem? l i ≡ some (get_or l i d)
  get_at [] i d h = absurd (omega arith)
  get_at (x ∷ xs) zero d h = refl
  get_at (x ∷ xs) (suc i) d h = get_at xs i d (omega arith)

  pub get_past : (l : List A) (i : ℕ) (d : A) → length l ≤ i → get_or l i d ≡ d
  get_past [] i d h = refl
  get_past (x ∷ xs) zero d h = absurd (omega arith)
  get_past (x ∷ xs) (suc i) d h = get_past xs i d (omega arith)

  pub set_here : (l : List A) (i : ℕ) (a : A) → i < length l → get_elem? (set l i a) i ≡ some a
  set_here [] i a h = absurd (omega arith)
  set_here (x ∷ xs) zero a h = refl
  set_here (x ∷ xs) (suc i) a h = set_here xs i a (omega arith)

  pub set_else : (l : List A) (i j : ℕ) (a : A) → j ≢ i → get_elem? (set l i a) j ≡ get_elem? l j
  set_else [] i j a n = refl
  set_else (x ∷ xs) zero zero a n = absurd (n refl)
  set_else (x ∷ xs) zero (suc j) a n = refl
  set_else (x ∷ xs) (suc i) zero a n = refl
  set_else (x ∷ xs) (suc i) (suc j) a n = set_else xs i j a (λ e. n (ap suc e))

  pub set_again : (l : List A) (i : ℕ) (a : A) → get_elem? l i ≡ some a → set l i a ≡ l
  set_again [] i a e = refl
  set_again (x ∷ xs) zero a e = λ k. sym (some-injective x a e) k ∷ xs
  set_again (x ∷ xs) (suc i) a e = λ k. x ∷ set_again xs i a e k

-- one name at one place
pub same_at : {A : Type 0} (l : List A) (i j : ℕ) (a b : A) → get_elem? l i ≡ some a
    → get_elem? l j ≡ some b → i ≡ j → a ≡ b
same_at l i j a b p q e = some-injective a b (sym p ∙ (ap (λ k. get_elem? l k) e ∙ q))
