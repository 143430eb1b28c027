-- Sums over a list: after one write, a part of one, and two side by side.
use Rattle.std.proofs.Common.{◌≡◌, ℕ, zero, suc, ◌+◌, ◌*◌, ◌<◌, ◌≤◌, List, [], ◌∷◌, length, set}
use Rattle.std.proofs.Common.{sum_by, refl, sym, ap, arith, suc-mul}
use Rattle.std.proofs.lemmas.List.Sums.{sum_by-cons}
use mathlib.Core.Option.{some, some-injective, some-ne-none}
use native.Mathlib.Decide.{dec_le}
use lib.ListN.{get_elem?}

module _ {A : Type 0} (f : A → ℕ) where
  pub sum_set : (l : List A) (i : ℕ) (a b : A) → get_elem? l i ≡ some a → sum_by f (set l i b) + f a
      ≡ sum_by f l + f b
  sum_set [] i a b e = absurd (some-ne-none a (sym e))
  sum_set (x ∷ xs) zero a b e = omega (
    arith,
    sum_by-cons f b xs,
    sum_by-cons f x xs,
    ap f (some-injective x a e),
  )
  sum_set (x ∷ xs) (suc i) a b e = omega (
    arith,
    sum_by-cons f x (set xs i b),
    sum_by-cons f x xs,
    sum_set xs i a b e,
  )

  pub at_le_sum : (l : List A) (i : ℕ) (a : A) → get_elem? l i ≡ some a → f a ≤ sum_by f l
  at_le_sum [] i a e = absurd (some-ne-none a (sym e))
  at_le_sum (x ∷ xs) zero a e = omega (arith, sum_by-cons f x xs, ap f (some-injective x a e))
  at_le_sum (x ∷ xs) (suc i) a e = omega (arith, sum_by-cons f x xs, at_le_sum xs i a e)

  -- a sum that is not 0 has a part that is not
  pub sum_some : (l : List A) → 0 < sum_by f l → (i : ℕ) × (a : A) × (get_elem? l i ≡ some a)
      × (0 < f a)
  sum_some [] h = absurd (omega arith)
  sum_some (x ∷ xs) h = here (dec_le 1 (f x)) (λ k. sum_some xs k)
    where
      here : Dec (1 ≤ f x) → (0 < sum_by f xs → (i : ℕ) × (a : A) × (get_elem? xs i ≡ some a)
          × (0 < f a)) → (i : ℕ) × (a : A) × (get_elem? (x ∷ xs) i ≡ some a) × (0 < f a)
      here (yes k) rest = (0, x, refl, omega arith)
      here (no k) rest = let r = rest (omega (arith, sum_by-cons f x xs)) in
          (suc r.0, r.1, r.2, r.3)

  pub sum_at_most : (m : ℕ) (l : List A) → ((i : ℕ) (a : A) → get_elem? l i ≡ some a → f a ≤ m)
      → sum_by f l ≤ length l * m
  sum_at_most m [] h = omega arith
  sum_at_most m (x ∷ xs) h = let a = h 0 x refl in let r = sum_at_most m xs (λ i b e. h (suc i) b e)
      in omega (arith, sum_by-cons f x xs, suc-mul (length xs) m)

  pub sum_zero : ((a : A) → f a ≡ 0) → (l : List A) → sum_by f l ≡ 0
  sum_zero e [] = refl
  sum_zero e (x ∷ xs) = omega (arith, sum_by-cons f x xs, e x, sum_zero e xs)

pub sum_apart : {A : Type 0} (f g h : A → ℕ) → ((a : A) → f a ≡ g a + h a) → (l : List A)
    → sum_by f l ≡ sum_by g l + sum_by h l
sum_apart f g h e [] = refl
sum_apart f g h e (x ∷ xs) = omega (
  arith,
  sum_by-cons f x xs,
  sum_by-cons g x xs,
  sum_by-cons h x xs,
  e x,
  sum_apart f g h e xs,
)

pub sum_same : {A : Type 0} (f g : A → ℕ) (l : List A) → ((i : ℕ) (a : A) → get_elem? l i ≡ some a
    → f a ≡ g a) → sum_by f l ≡ sum_by g l
sum_same f g [] h = refl
sum_same f g (x ∷ xs) h = omega (
  arith,
  sum_by-cons f x xs,
  sum_by-cons g x xs,
  h 0 x refl,
  sum_same f g xs (λ i a e. h (suc i) a e),
)
