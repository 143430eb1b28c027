-- The numbers that are out of a view: each is there once, and fewer than there are workers.
use Rattle.std.proofs.Common.{◌≡◌, ◌≢◌, ℕ, zero, suc, ◌+◌, ◌<◌, ◌≤◌, List, [], ◌∷◌, length, true}
use Rattle.std.proofs.Common.{ne_eqb, refl, sym, ap, subst, ◌∙◌, arith}
use native.Mathlib.Decide.{ℕ_discrete, dec_le}
use mathlib.Core.Option.{some}
use lib.ListN.{get_elem?}
use Rattle.eqc_core.specs.declared.sizes.Sizes.{Sizes}
use Rattle.eqc_core.specs.View.{View, unused, view_at}
use Rattle.eqc_core.specs.Words.{Words, times}
use Rattle.eqc_core.specs.Tables.{Homes}
use Rattle.eqc_core.specs.Moves.{without}
use Rattle.eqc_core.specs.Lawful.{Lawful, numbers_out, is_taken}
use Rattle.eqc_core.proofs.Sums.{at_le_sum}
use Rattle.eqc_core.proofs.Lists.{at_below, at_get, same_at}
use Rattle.eqc_core.proofs.Names.{times-same, times-other, times-without, times-without_other}
use Rattle.eqc_core.proofs.Names.{times_without_le, length-without_one}

-- the numbers below m, each once at most, are at most m
few_below : (m : ℕ) (xs : List ℕ) → ((n : ℕ) → times n xs ≤ 1) → ((n : ℕ) → 0 < times n xs → n < m)
    → length xs ≤ m
few_below zero [] once below = omega arith
few_below zero (x ∷ xs) once below =
    absurd (let lt = below x (omega (arith, times-same x x xs refl)) in omega arith)
few_below (suc m) xs once below = go (dec_le 1 (times m xs)) (λ ys o b. few_below m ys o b)
  where
    less : (0 < times m xs) → (n : ℕ) → 0 < times n (without m xs) → Dec (m ≡ n) → n < m
    less there n h (yes e) =
        absurd (let t : 1 + times n (without m xs) ≡ times n xs =
        subst (λ (k : ℕ). 1 + times k (without m xs) ≡ times k xs) e (times-without m xs there)
        in let o = once n in omega arith)
    less there n h (no apart) = let lt = below n (omega (arith, times-without_other n m xs apart))
        in let ne : n ≢ m = λ e. apart (sym e) in omega arith

    other : (times m xs ≡ 0) → (n : ℕ) → 0 < times n xs → Dec (m ≡ n) → n < m
    other none n h (yes e) = absurd (let t : times n xs ≡ 0 = subst (λ (k : ℕ). times k xs ≡ 0) e
        none in omega arith)
    other none n h (no apart) = let lt = below n h in let ne : n ≢ m = λ e. apart (sym e) in
        omega arith

    go : Dec (1 ≤ times m xs) → ((ys : List ℕ) → ((n : ℕ) → times n ys ≤ 1)
        → ((n : ℕ) → 0 < times n ys → n < m) → length ys ≤ m) → length xs ≤ suc m
    go (yes there) rest = let r = rest (without m xs) (λ n. let o = once n in
        omega (arith, times_without_le n m xs)) (λ n h. less there n h (ℕ_discrete m n)) in
        omega (arith, length-without_one m xs there)
    go (no lack) rest = let none : times m xs ≡ 0 = omega arith in let r =
        rest xs once (λ n h. other none n h (ℕ_discrete m n)) in omega arith

-- and fewer than m where 0 is none of them
fewer_below : (m : ℕ) (xs : List ℕ) → 0 < m → times 0 xs ≡ 0 → ((n : ℕ) → 0 < n → times n xs ≤ 1)
    → ((n : ℕ) → 0 < n → 0 < times n xs → n < m) → length xs < m
fewer_below m xs some_m none once below = let r = few_below m (0 ∷ xs) (λ n. one n (ℕ_discrete 0 n))
    (λ n h. lt n h (ℕ_discrete 0 n)) in omega arith
  where
    one : (n : ℕ) → Dec (0 ≡ n) → times n (0 ∷ xs) ≤ 1
    one n (yes e) = let t : times n xs ≡ 0 = subst (λ (k : ℕ). times k xs ≡ 0) e none in
        omega (arith, times-same n 0 xs e)
    one n (no apart) = let p : 0 < n = omega arith in let o = once n p in
        omega (arith, times-other n 0 xs apart)

    lt : (n : ℕ) → 0 < times n (0 ∷ xs) → Dec (0 ≡ n) → n < m
    lt n h (yes e) = omega arith
    lt n h (no apart) = let p : 0 < n = omega arith in
        below n p (omega (arith, times-other n 0 xs apart))

module _ (z : Sizes) (w : Words) (hs : Homes) (vs : List View) (id : ℕ) (v : View)
    (law : Lawful z w hs vs) (at : get_elem? vs id ≡ some v) (on : v.active ≡ true) where
  some_views : 0 < length vs
  some_views = let first = law.seated.first in omega (arith, at_below vs 0 first.0 first.1)

  -- a number that a view has out is out of worker 0's
  taken : (n : ℕ) → 0 < n → times n v.out ≤ times n (numbers_out vs)
  taken n pos = go (ℕ_discrete v.number 0)
    where
      go : Dec (v.number ≡ 0) → times n v.out ≤ times n (numbers_out vs)
      go (yes e) =
          let here : 0 ≡ id = sym e ∙ (law.views id v at on).number in
          let same : (view_at vs 0).out ≡ v.out = ap (λ (k : ℕ). (view_at vs k).out) here
          ∙ ap (λ (t : View). t.out) (at_get vs id v unused at) in
          omega (arith, ap (λ (l : List ℕ). times n l) same)
      go (no m) =
          let is : is_taken n v ≡ times n v.out = rw (ne_eqb v.number 0 m) refl in
          omega (arith, law.seated.out n pos, at_le_sum (is_taken n) vs id v at)

  few_out : length v.out < length vs
  few_out = fewer_below (length vs) v.out some_views (law.views id v at on).others
      (λ n pos. omega (arith, taken n pos, law.seated.out_once n))
      (λ n pos h. (law.seated.out_given n (omega (arith, taken n pos))).0)

  pub out_few : length v.out < z.workers
  out_few = omega (arith, few_out, law.sized.views)

  pub out_given : v.number ≡ 0 → (length v.out < v.given) × (v.given ≤ z.workers)
  out_given e =
      let first = law.seated.first in
      let here : id ≡ 0 = sym (law.views id v at on).number ∙ e in
      let same : first.0 ≡ v = same_at vs 0 id first.0 v first.1 at (sym here) in
      let given : v.given ≡ length vs = sym (ap (λ (t : View). t.given) same) ∙ first.3 in
      (omega (arith, few_out), omega (arith, law.sized.views))
