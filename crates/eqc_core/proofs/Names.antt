-- How often a name stands in a list, after names are added and taken away.
use Rattle.std.proofs.Common.{◌≡◌, ◌≢◌, ◌⊎◌, ℕ, suc, ◌+◌, ◌<◌, ◌≤◌, List, [], ◌∷◌, ◌++◌, length}
use Rattle.std.proofs.Common.{get_or, eqb, ltb, cond, Bool, true, false, eq-eqb, ne_eqb, refl, sym}
use Rattle.std.proofs.Common.{ap, subst, ◌∙◌, arith, inl, inr, ⊎_elim}
use Rattle.std.proofs.lemmas.Bool.{lt-ltb, le-ltb}
use Rattle.std.proofs.lemmas.List.Sums.{sum_by-cons, sum_by-append, count_by-le-length}
use native.Mathlib.Decide.{ℕ_discrete, dec_le}
use Rattle.eqc_core.specs.Words.{times, slots_of, result_of, operands, cell_names, first_of}
use Rattle.eqc_core.specs.Words.{second_of, children, low_of, high_of}
use Rattle.eqc_core.specs.Moves.{AreHeld, without, without_each}

pub times-cons : (x y : ℕ) (ys : List ℕ) → times x (y ∷ ys) ≡ cond (eqb y x) 1 0 + times x ys
unfolding times
times-cons x y ys = sum_by-cons (λ z. cond (eqb z x) 1 0) y ys

pub times-same : (x y : ℕ) (ys : List ℕ) → y ≡ x → times x (y ∷ ys) ≡ 1 + times x ys
times-same x y ys e = times-cons x y ys ∙ ap (λ (b : Bool). cond b 1 0 + times x ys) (eq-eqb y x e)

pub times-other : (x y : ℕ) (ys : List ℕ) → y ≢ x → times x (y ∷ ys) ≡ times x ys
times-other x y ys n = let e = times-cons x y ys in let c = ap {B = ℕ} (λ (b : Bool). cond b 1 0)
    (ne_eqb y x n) in omega (arith, e, c)

pub times-append : (x : ℕ) (ys zs : List ℕ) → times x (ys ++ zs) ≡ times x ys + times x zs
unfolding times
times-append x ys zs = sum_by-append (λ z. cond (eqb z x) 1 0) ys zs

pub times-nil : (x : ℕ) → times x [] ≡ 0
unfolding times
times-nil x = refl

pub times_le : (x : ℕ) (xs : List ℕ) → times x xs ≤ length xs
unfolding times
times_le x xs = count_by-le-length (λ y. eqb y x) xs

-- one more in front leaves what is there
pub times_more : (x y : ℕ) (ys : List ℕ) → 0 < times x ys → 0 < times x (y ∷ ys)
times_more x y ys h = omega (arith, times-cons x y ys)

-- a list with a name has it in front or behind
pub times_cases : (x y : ℕ) (ys : List ℕ) → 0 < times x (y ∷ ys) → (y ≡ x) ⊎ (0 < times x ys)
times_cases x y ys h = go (ℕ_discrete y x)
  where
    go : Dec (y ≡ x) → (y ≡ x) ⊎ (0 < times x ys)
    go (yes e) = inl e
    go (no n) = inr (omega (arith, times-other x y ys n))

pub cons_same : (x y : ℕ) (a b : List ℕ) → times x a ≡ times x b → times x (y ∷ a) ≡ times x (y ∷ b)
cons_same x y a b e = omega (arith, times-cons x y a, times-cons x y b)

-- `without` takes one away, where there is one
pub times-without : (x : ℕ) (ys : List ℕ) → 0 < times x ys → 1 + times x (without x ys) ≡ times x ys
times-without x [] h = absurd (let n = times-nil x in omega arith)
times-without x (y ∷ ys) h = step (ℕ_discrete y x) (times-without x ys)
  where
    step : Dec (y ≡ x) → (0 < times x ys → 1 + times x (without x ys) ≡ times x ys)
        → 1 + times x (without x (y ∷ ys)) ≡ times x (y ∷ ys)
    step (yes e) rest = rw (eq-eqb y x e) (sym (times-same x y ys e))
    step (no n) rest = rw (ne_eqb y x n) (let r : 0 < times x ys =
        omega (arith, times-other x y ys n) in omega (
          arith,
          times-other x y ys n,
          times-other x y (without x ys) n,
          rest r,
        ))

pub times-without_other : (z x : ℕ) (ys : List ℕ) → x ≢ z → times z (without x ys) ≡ times z ys
times-without_other z x [] n = refl
times-without_other z x (y ∷ ys) n = step (ℕ_discrete y x) (times-without_other z x ys n)
  where
    step : Dec (y ≡ x) → times z (without x ys) ≡ times z ys → times z (without x (y ∷ ys))
        ≡ times z (y ∷ ys)
    step (yes e) rest = rw (eq-eqb y x e) (sym (times-other z y ys (λ p. n (sym e ∙ p))))
    step (no m) rest = rw (ne_eqb y x m) (cons_same z y (without x ys) ys rest)

pub length-without : (x : ℕ) (ys : List ℕ) → length (without x ys) ≤ length ys
length-without x [] = omega arith
length-without x (y ∷ ys) = step (ℕ_discrete y x) (length-without x ys)
  where
    step : Dec (y ≡ x) → length (without x ys) ≤ length ys → length (without x (y ∷ ys))
        ≤ length (y ∷ ys)
    step (yes e) rest = rw (eq-eqb y x e) (omega arith)
    step (no n) rest = rw (ne_eqb y x n) (omega arith)

-- one entry less, where there is one
pub length-without_one : (x : ℕ) (ys : List ℕ) → 0 < times x ys → suc (length (without x ys))
    ≡ length ys
length-without_one x [] h = absurd (let n = times-nil x in omega arith)
length-without_one x (y ∷ ys) h = step (ℕ_discrete y x) (length-without_one x ys)
  where
    step : Dec (y ≡ x) → (0 < times x ys → suc (length (without x ys)) ≡ length ys)
        → suc (length (without x (y ∷ ys))) ≡ length (y ∷ ys)
    step (yes e) rest = rw (eq-eqb y x e) refl
    step (no n) rest = rw (ne_eqb y x n) (let r = rest (omega (arith, times-other x y ys n)) in
        ap suc r)

pub length-without_each : (xs ys : List ℕ) → length (without_each xs ys) ≤ length ys
length-without_each [] ys = omega arith
length-without_each (x ∷ xs) ys = omega (
  arith,
  length-without_each xs (without x ys),
  length-without x ys,
)

less : (x y : ℕ) (xs ys : List ℕ) → times x (y ∷ xs) ≤ times x ys → Dec (y ≡ x)
    → (times x xs ≤ times x (without y ys)) × (times x (without y ys) + times x (y ∷ xs)
    ≡ times x ys + times x xs)
less x y xs ys h (yes e) =
    let t : 1 + times x (without y ys) ≡ times x ys = subst (λ (k : ℕ). 1 + times x (without k ys)
    ≡ times x ys) (sym e) (times-without x ys (omega (arith, times-same x y xs e))) in
    let s = times-same x y xs e in
    (omega arith, omega arith)
less x y xs ys h (no n) = let t = times-without_other x y ys n in let s = times-other x y xs n in
    (omega arith, omega arith)

-- nothing is added
pub times_without_le : (z x : ℕ) (ys : List ℕ) → times z (without x ys) ≤ times z ys
times_without_le z x [] = omega arith
times_without_le z x (y ∷ ys) = step (ℕ_discrete y x) (times_without_le z x ys)
  where
    step : Dec (y ≡ x) → times z (without x ys) ≤ times z ys → times z (without x (y ∷ ys))
        ≤ times z (y ∷ ys)
    step (yes e) rest = rw (eq-eqb y x e) (omega (arith, times-cons z y ys))
    step (no n) rest = rw (ne_eqb y x n) (omega (
      arith,
      times-cons z y ys,
      times-cons z y (without x ys),
    ))

pub times_without_each_le : (x : ℕ) (xs ys : List ℕ) → times x (without_each xs ys) ≤ times x ys
times_without_each_le x [] ys = omega arith
times_without_each_le x (y ∷ xs) ys = omega (
  arith,
  times_without_each_le x xs (without y ys),
  times_without_le x y ys,
)

-- names that are there are taken away as often as they are named
pub times-without_each : (x : ℕ) (xs ys : List ℕ) → times x xs ≤ times x ys
    → times x (without_each xs ys) + times x xs ≡ times x ys
times-without_each x [] ys h = let n = times-nil x in omega arith
times-without_each x (y ∷ xs) ys h = let l = less x y xs ys h (ℕ_discrete y x) in let r =
    times-without_each x xs (without y ys) l.0 in let e = l.1 in omega arith

pub two_cases : (n : ℕ) → ((ltb n 2 ≡ true) × (n < 2)) ⊎ ((ltb n 2 ≡ false) × (2 ≤ n))
two_cases n = go (dec_le 2 n)
  where
    go : Dec (2 ≤ n) → ((ltb n 2 ≡ true) × (n < 2)) ⊎ ((ltb n 2 ≡ false) × (2 ≤ n))
    go (yes h) = inr (le-ltb n 2 h, h)
    go (no h) = inl (lt-ltb n 2 (omega arith), omega arith)

pub times-slots_of : (x : ℕ) (ys : List ℕ) → 2 ≤ x → times x (slots_of ys) ≡ times x ys
times-slots_of x [] two = refl
times-slots_of x (y ∷ ys) two =
    let r = times-slots_of x ys two in
    elim (two_cases y) [
      | inl t ↦ rw t.0 (let lt = t.1 in
          omega (arith, times-other x y ys (λ e. omega arith), r))
      | inr t ↦
          rw t.0 (cons_same x y (slots_of ys) ys r)
    ]

-- only slots are left
pub slots_of_slots : (x : ℕ) (ys : List ℕ) → 0 < times x (slots_of ys) → 2 ≤ x
slots_of_slots x [] h = absurd (let n = times-nil x in omega arith)
slots_of_slots x (y ∷ ys) h =
    let rest : 0 < times x (slots_of ys) → 2 ≤ x = slots_of_slots x ys in
    elim (two_cases y) [
      | inl t ↦ rest (rw t.0 at h)
      | inr t ↦
          ⊎_elim (λ (e : y ≡ x). subst (λ (k : ℕ). 2 ≤ k) e t.1) rest (times_cases x y (slots_of ys)
          (rw t.0 at h))
    ]

pub length-slots_of : (ys : List ℕ) → length (slots_of ys) ≤ length ys
length-slots_of [] = omega arith
length-slots_of (y ∷ ys) = let r = length-slots_of ys in elim (two_cases y) [
  | inl t ↦
      rw t.0 (omega arith)
  | inr t ↦ rw t.0 (omega arith)
]

-- a word names its result, its operands and its children
pub names_result : (word : ℕ) → 0 < times (result_of word) (cell_names word)
names_result word = omega (arith, times-same (result_of word) (result_of word) (operands word) refl)

pub names_first : (word : ℕ) → 0 < times (first_of word) (cell_names word)
names_first word = times_more (first_of word) (result_of word) (operands word)
    (omega (arith, times-same (first_of word) (first_of word) (second_of word ∷ []) refl))

pub names_second : (word : ℕ) → 0 < times (second_of word) (cell_names word)
names_second word =
    times_more (second_of word) (result_of word) (operands word)
    (times_more (second_of word) (first_of word) (second_of word ∷ [])
    (omega (arith, times-same (second_of word) (second_of word) [] refl)))

pub names_low : (word : ℕ) → 0 < times (low_of word) (children word)
names_low word = omega (arith, times-same (low_of word) (low_of word) (high_of word ∷ []) refl)

pub names_high : (word : ℕ) → 0 < times (high_of word) (children word)
names_high word = times_more (high_of word) (low_of word) (high_of word ∷ [])
    (omega (arith, times-same (high_of word) (high_of word) [] refl))

pub cell_names_is : (x word : ℕ) → times x (cell_names word) ≡ times x (result_of word ∷ [])
    + times x (operands word)
cell_names_is x word = times-append x (result_of word ∷ []) (operands word)

-- a name that stands in the list has a place there
pub times_place : (x : ℕ) (xs : List ℕ) → 0 < times x xs → (k : ℕ) × (k < length xs)
    × (get_or xs k 0 ≡ x)
times_place x [] h = absurd (let n = times-nil x in omega arith)
times_place x (y ∷ ys) h =
    let rest : 0 < times x ys → (k : ℕ) × (k < length ys) × (get_or ys k 0 ≡ x) = times_place x ys
    in
    ⊎_elim (λ (e : y ≡ x). (0, omega arith, e)) (λ (r : 0 < times x ys). let p = rest r in
    (suc p.0, (let b = p.1 in omega arith), p.2)) (times_cases x y ys h)

-- what holds of each name at its place holds of all
pub held_by_place : (names held : List ℕ) → ((k : ℕ) → k < length names → 2 ≤ get_or names k 0
    → times (get_or names k 0) names ≤ times (get_or names k 0) held) → AreHeld names held
held_by_place names held each x two = go (dec_le 1 (times x names))
  where
    go : Dec (1 ≤ times x names) → times x names ≤ times x held
    go (yes h) = let p = times_place x names h in subst (λ (y : ℕ). times y names ≤ times y held)
        p.2 (each p.0 p.1 (let e = p.2 in omega arith))
    go (no n) = omega arith
