-- The words, slots and tables of the literals with which a run begins.
use Rattle.std.proofs.Common.{◌≡◌, ◌≢◌, ◌⊎◌, ℕ, zero, suc, ◌+◌, ◌-◌, ◌<◌, ◌≤◌, List, [], ◌∷◌, ◌++◌}
use Rattle.std.proofs.Common.{length, get_or, sum_by, eqb, ltb, cond, Bool, eq-eqb, ne_eqb, refl}
use Rattle.std.proofs.Common.{sym, ap, ◌∙◌, arith, inl, inr}
use Rattle.std.proofs.lemmas.Bool.{lt-ltb, le-ltb}
use Rattle.std.proofs.lemmas.List.Sums.{sum_by-cons}
use mathlib.Core.Option.{some, some-injective, some-ne-none}
use native.Mathlib.Decide.{ℕ_discrete, dec_le}
use lib.ListN.{get_elem?}
use Rattle.eqc_core.specs.Words.{Words, announced_words, word_at, times, children, variable_of}
use Rattle.eqc_core.specs.Words.{low_of, high_of, stripe_of, cell_names}
use Rattle.eqc_core.specs.Tables.{Entries, at_home, table_names, table_has, home_there}
use Rattle.eqc_core.specs.Owners.{in_words}
use Rattle.eqc_core.specs.State.{repeated, literal, literals, slots_from, stripe_entries}
use Rattle.eqc_core.specs.State.{homes_from}
use Rattle.eqc_core.proofs.Sums.{sum_same}
use Rattle.eqc_core.proofs.Names.{times-cons, times-same, times-other, times-nil}

pub repeated_length : (x n : ℕ) → length (repeated x n) ≡ n
repeated_length x zero = refl
repeated_length x (suc n) = ap suc (repeated_length x n)

pub repeated_at : (x n i y : ℕ) → get_elem? (repeated x n) i ≡ some y → y ≡ x
repeated_at x zero i y e = absurd (some-ne-none y (sym e))
repeated_at x (suc n) zero y e = sym (some-injective x y e)
repeated_at x (suc n) (suc i) y e = repeated_at x n i y e

pub zeros_get : (n i : ℕ) → get_or (repeated 0 n) i 0 ≡ 0
zeros_get zero i = refl
zeros_get (suc n) zero = refl
zeros_get (suc n) (suc i) = zeros_get n i

pub zero_words : (x n : ℕ) → 2 ≤ x → in_words x (repeated 0 n) ≡ 0
unfolding in_words times Rattle.eqc_core.specs.Words.result_of Rattle.eqc_core.specs.Words.first_of
    Rattle.eqc_core.specs.Words.second_of
zero_words x zero two = refl
zero_words x (suc n) two =
    let r = zero_words x n two in
    let here : times x (cell_names 0) ≡ 0 = rw (ne_eqb 0 x (λ e. omega arith)) refl in
    omega (arith, sum_by-cons (λ word. times x (cell_names word)) 0 (repeated 0 n))

pub literals_length : (i n : ℕ) → length (literals i n) ≡ n
literals_length i zero = refl
literals_length i (suc n) = ap suc (literals_length (suc i) n)

pub literals_get : (i n m : ℕ) (rest : List ℕ) → m < n → get_or (literals i n ++ rest) m 0
    ≡ literal (i + m)
literals_get i zero m rest lt = absurd (omega arith)
literals_get i (suc n) zero rest lt = ap literal (omega arith)
literals_get i (suc n) (suc m) rest lt = literals_get (suc i) n m rest (omega arith)
    ∙ ap literal (omega arith)

pub counts_get : (n m k : ℕ) → m < n → get_or (repeated 2 n ++ repeated 0 k) m 0 ≡ 2
counts_get zero m k lt = absurd (omega arith)
counts_get (suc n) zero k lt = refl
counts_get (suc n) (suc m) k lt = counts_get n m k (omega arith)

pub counts_past : (n m k : ℕ) → n ≤ m → get_or (repeated 2 n ++ repeated 0 k) m 0 ≡ 0
counts_past zero m k le = zeros_get k m
counts_past (suc n) zero k le = absurd (omega arith)
counts_past (suc n) (suc m) k le = counts_past n m k (omega arith)

-- the slots of n literals have each once, from x on
pub slots_out : (x b n : ℕ) → (x < b) ⊎ (b + n ≤ x) → times x (slots_from b n) ≡ 0
slots_out x b zero out = times-nil x
slots_out x b (suc n) (inl lt) = times-other x b (slots_from (suc b) n) (λ e. omega arith)
    ∙ slots_out x (suc b) n (inl (omega arith))
slots_out x b (suc n) (inr le) = times-other x b (slots_from (suc b) n) (λ e. omega arith)
    ∙ slots_out x (suc b) n (inr (omega arith))

pub slots_in : (x b n : ℕ) → b ≤ x → x < b + n → times x (slots_from b n) ≡ 1
slots_in x b zero le lt = absurd (omega arith)
slots_in x b (suc n) le lt = go (ℕ_discrete b x) (λ ne. slots_in x (suc b) n (omega arith)
    (omega arith))
  where
    go : Dec (b ≡ x) → (b ≢ x → times x (slots_from (suc b) n) ≡ 1)
        → times x (b ∷ slots_from (suc b) n) ≡ 1
    go (yes e) rest = let r = slots_out x (suc b) n (inl (omega arith)) in
        omega (arith, times-same x b (slots_from (suc b) n) e)
    go (no ne) rest = let r = rest ne in omega (arith, times-other x b (slots_from (suc b) n) ne)

pub slots_length : (b n : ℕ) → length (slots_from b n) ≡ n
slots_length b zero = refl
slots_length b (suc n) = ap suc (slots_length (suc b) n)

-- the fields of a literal's word
pub literal_variable : (i : ℕ) → variable_of (literal i) ≡ i
unfolding variable_of
literal_variable i = omega arith

pub literal_low : (i : ℕ) → low_of (literal i) ≡ 0
unfolding low_of
literal_low i = omega arith

pub literal_high : (i : ℕ) → high_of (literal i) ≡ 1
unfolding high_of
literal_high i = omega arith

stripe_small : (word : ℕ) → stripe_of word < 16
unfolding stripe_of
stripe_small word = omega arith

-- an entry is the literal of some variable
pub entry_at : (s i n j : ℕ) (e : ℕ × ℕ) → get_elem? (stripe_entries s i n) j ≡ some e → (m : ℕ)
    × (i ≤ m) × (m < i + n) × (e ≡ (literal m, 2 + m)) × (stripe_of (literal m) ≡ s)
entry_at s i zero j e at = absurd (some-ne-none e (sym at))
entry_at s i (suc n) j e at = go (ℕ_discrete (stripe_of (literal i)) s) (λ k at. entry_at s (suc i)
    n k e at)
  where
    later : (k : ℕ) →
        ((k : ℕ) → get_elem? (stripe_entries s (suc i) n) k ≡ some e → (m : ℕ) × (suc i ≤ m)
        × (m < suc i + n) × (e ≡ (literal m, 2 + m)) × (stripe_of (literal m) ≡ s)) →
        get_elem? (stripe_entries s (suc i) n) k ≡ some e
        → (m : ℕ) × (i ≤ m) × (m < i + suc n) × (e ≡ (literal m, 2 + m))
        × (stripe_of (literal m) ≡ s)
    later k rest there = let r = rest k there in let a = r.1 in let b = r.2 in
        (r.0, omega arith, omega arith, r.3, r.4)

    first : (k : ℕ) →
        ((k : ℕ) → get_elem? (stripe_entries s (suc i) n) k ≡ some e → (m : ℕ) × (suc i ≤ m)
        × (m < suc i + n) × (e ≡ (literal m, 2 + m)) × (stripe_of (literal m) ≡ s)) →
        stripe_of (literal i) ≡ s → get_elem? ((literal i, 2 + i) ∷ stripe_entries s (suc i) n) k
        ≡ some e
        → (m : ℕ) × (i ≤ m) × (m < i + suc n) × (e ≡ (literal m, 2 + m))
        × (stripe_of (literal m) ≡ s)
    first zero rest is there =
        (i, omega arith, omega arith, sym (some-injective (literal i, 2 + i) e there), is)
    first (suc k) rest is there = later k rest there

    go : Dec (stripe_of (literal i) ≡ s) →
        ((k : ℕ) → get_elem? (stripe_entries s (suc i) n) k ≡ some e → (m : ℕ) × (suc i ≤ m)
        × (m < suc i + n) × (e ≡ (literal m, 2 + m)) × (stripe_of (literal m) ≡ s))
        → (m : ℕ) × (i ≤ m) × (m < i + suc n) × (e ≡ (literal m, 2 + m))
        × (stripe_of (literal m) ≡ s)
    go (yes is) rest = first j rest is (rw (eq-eqb (stripe_of (literal i)) s is) at at)
    go (no ne) rest = later j rest (rw (ne_eqb (stripe_of (literal i)) s ne) at at)

-- how often a stripe has the slot: only the stripe of its literal does
has_literal : (x s i n : ℕ) → table_has x (stripe_entries s i n)
    ≡ cond (eqb (stripe_of (literal (x - 2))) s) (times x (slots_from (2 + i) n)) 0
unfolding table_has
has_literal x s i zero = go (ℕ_discrete (stripe_of (literal (x - 2))) s)
  where
    go : Dec (stripe_of (literal (x - 2)) ≡ s) → 0 ≡ cond (eqb (stripe_of (literal (x - 2))) s)
        (times x []) 0
    go (yes e) = rw (eq-eqb (stripe_of (literal (x - 2))) s e) (sym (times-nil x))
    go (no n) = rw (ne_eqb (stripe_of (literal (x - 2))) s n) refl
has_literal x s i (suc n) = go (ℕ_discrete (stripe_of (literal i)) s)
    (ℕ_discrete (stripe_of (literal (x - 2))) s) (ℕ_discrete (2 + i) x) (has_literal x s (suc i) n)
  where
    rest : ℕ
    rest = sum_by (λ (e : ℕ × ℕ). cond {A = ℕ} (eqb e.1 x) 1 0) (stripe_entries s (suc i) n)

    same_slots : slots_from (2 + suc i) n ≡ slots_from (suc (2 + i)) n
    same_slots = ap (λ (b : ℕ). slots_from b n) (omega arith)

    go : Dec (stripe_of (literal i) ≡ s) → Dec (stripe_of (literal (x - 2)) ≡ s) → Dec (2 + i ≡ x)
        → sum_by (λ (e : ℕ × ℕ). cond {A = ℕ} (eqb e.1 x) 1 0) (stripe_entries s (suc i) n)
        ≡ cond (eqb (stripe_of (literal (x - 2))) s) (times x (slots_from (2 + suc i) n)) 0
        → sum_by (λ (e : ℕ × ℕ). cond {A = ℕ} (eqb e.1 x) 1 0) (stripe_entries s i (suc n))
        ≡ cond (eqb (stripe_of (literal (x - 2))) s) (times x (slots_from (2 + i) (suc n))) 0
    go (yes a) (yes b) d r =
        rw (eq-eqb (stripe_of (literal i)) s a, eq-eqb (stripe_of (literal (x - 2))) s b)
        (let r' : rest ≡ times x (slots_from (2 + suc i) n) =
        rw (eq-eqb (stripe_of (literal (x - 2))) s b) at r in
        let l = ap (times x) same_slots in
        omega (
          arith,
          sum_by-cons (λ (e : ℕ × ℕ). cond {A = ℕ} (eqb e.1 x) 1 0) (literal i, 2 + i)
              (stripe_entries s (suc i) n),
          times-cons x (2 + i) (slots_from (suc (2 + i)) n),
        ))
    go (yes a) (no b) (yes e) r =
        absurd (b (ap (λ (k : ℕ). stripe_of (literal k)) (let q : x - 2 ≡ i = omega arith in q)
        ∙ a))
    go (yes a) (no b) (no ne) r =
        rw (eq-eqb (stripe_of (literal i)) s a, ne_eqb (stripe_of (literal (x - 2))) s b)
        (let r' : rest ≡ 0 = rw (ne_eqb (stripe_of (literal (x - 2))) s b) at r in
        let o = ap {B = ℕ} (λ (p : Bool). cond p 1 0) (ne_eqb (2 + i) x ne) in
        omega (
          arith,
          sum_by-cons (λ (e : ℕ × ℕ). cond {A = ℕ} (eqb e.1 x) 1 0) (literal i, 2 + i)
              (stripe_entries s (suc i) n),
        ))
    go (no a) (yes b) (yes e) r =
        absurd (a (ap (λ (k : ℕ). stripe_of (literal k)) (let q : i ≡ x - 2 = omega arith in q)
        ∙ b))
    go (no a) (yes b) (no ne) r =
        rw (ne_eqb (stripe_of (literal i)) s a, eq-eqb (stripe_of (literal (x - 2))) s b)
        (let r' : rest ≡ times x (slots_from (2 + suc i) n) =
        rw (eq-eqb (stripe_of (literal (x - 2))) s b) at r in
        let l = ap (times x) same_slots in
        omega (arith, times-other x (2 + i) (slots_from (suc (2 + i)) n) ne))
    go (no a) (no b) d r = rw (
      ne_eqb (stripe_of (literal i)) s a,
      ne_eqb (stripe_of (literal (x - 2))) s b,
    ) (let r' : rest ≡ 0 =
        rw (ne_eqb (stripe_of (literal (x - 2))) s b) at r in r')

-- the sum over k stripes from s on has a slot's literal where its stripe is among them
sum_homes : (x s k n : ℕ) →
    sum_by (at_home (table_has x)) (homes_from s k n) ≡ cond (ltb (stripe_of (literal (x - 2))) (s
    + k)) (cond (ltb (stripe_of (literal (x - 2))) s) 0 (times x (slots_from 2 n))) 0
sum_homes x s zero n = go (dec_le s (stripe_of (literal (x - 2))))
  where
    go : Dec (s ≤ stripe_of (literal (x - 2)))
        → 0 ≡ cond (ltb (stripe_of (literal (x - 2))) (s + 0))
        (cond (ltb (stripe_of (literal (x - 2))) s) 0 (times x (slots_from 2 n))) 0
    go (yes le) = rw (le-ltb (stripe_of (literal (x - 2))) (s + 0) (omega arith)) refl
    go (no lt) = rw (
      lt-ltb (stripe_of (literal (x - 2))) (s + 0) (omega arith),
      lt-ltb (stripe_of (literal (x - 2))) s (omega arith),
    ) refl
sum_homes x s (suc k) n = go (cases (stripe_of (literal (x - 2))) s k) (sum_homes x (suc s) k n)
  where
    c : ℕ
    c = stripe_of (literal (x - 2))

    cases : (c s k : ℕ) → (c < s) ⊎ ((c ≡ s) ⊎ (((suc s ≤ c) × (c < suc s + k)) ⊎ (suc s + k ≤ c)))
    cases c s k = pick (dec_le s c) (dec_le (suc s) c) (dec_le (suc s + k) c)
      where
        pick : Dec (s ≤ c) → Dec (suc s ≤ c) → Dec (suc s + k ≤ c) → (c < s)
            ⊎ ((c ≡ s) ⊎ (((suc s ≤ c) × (c < suc s + k)) ⊎ (suc s + k ≤ c)))
        pick (no a) e f = inl (omega arith)
        pick (yes a) (no b) f = inr (inl (omega arith))
        pick (yes a) (yes b) (no d) = inr (inr (inl (b, omega arith)))
        pick (yes a) (yes b) (yes d) = inr (inr (inr d))

    front : sum_by (at_home (table_has x)) (homes_from s (suc k) n)
        ≡ cond (eqb (stripe_of (literal (x - 2))) s) (times x (slots_from 2 n)) 0
        + sum_by (at_home (table_has x)) (homes_from (suc s) k n)
    front = sum_by-cons (at_home (table_has x)) (some (stripe_entries s 0 n))
        (homes_from (suc s) k n)
        ∙ ap (λ (m : ℕ). m + sum_by (at_home (table_has x)) (homes_from (suc s) k n))
        (has_literal x s 0 n)

    go : (c < s) ⊎ ((c ≡ s) ⊎ (((suc s ≤ c) × (c < suc s + k)) ⊎ (suc s + k ≤ c)))
        → sum_by (at_home (table_has x)) (homes_from (suc s) k n)
        ≡ cond (ltb (stripe_of (literal (x - 2))) (suc s + k))
        (cond (ltb (stripe_of (literal (x - 2))) (suc s)) 0 (times x (slots_from 2 n))) 0
        → sum_by (at_home (table_has x)) (homes_from s (suc k) n)
        ≡ cond (ltb (stripe_of (literal (x - 2))) (s + suc k))
        (cond (ltb (stripe_of (literal (x - 2))) s) 0 (times x (slots_from 2 n))) 0
    go (inl lt) r = rw (
      lt-ltb (stripe_of (literal (x - 2))) (s + suc k) (omega arith),
      lt-ltb (stripe_of (literal (x - 2))) s lt,
    )
        (let r' = rw (
          lt-ltb (stripe_of (literal (x - 2))) (suc s + k) (omega arith),
          lt-ltb (stripe_of (literal (x - 2))) (suc s) (omega arith),
        ) at r in
        let f = rw (ne_eqb (stripe_of (literal (x - 2))) s (λ e. omega arith)) at front in
        omega arith)
    go (inr (inl e)) r = rw (
      lt-ltb (stripe_of (literal (x - 2))) (s + suc k) (omega arith),
      le-ltb (stripe_of (literal (x - 2))) s (omega arith),
    )
        (let r' = rw (
          lt-ltb (stripe_of (literal (x - 2))) (suc s + k) (omega arith),
          lt-ltb (stripe_of (literal (x - 2))) (suc s) (omega arith),
        ) at r in
        let f = rw (eq-eqb (stripe_of (literal (x - 2))) s e) at front in omega arith)
    go (inr (inr (inl h))) r = rw (
      lt-ltb (stripe_of (literal (x - 2))) (s + suc k) (let a = h.1 in
          omega arith),
      le-ltb (stripe_of (literal (x - 2))) s (let a = h.0 in omega arith),
    )
        (let r' = rw (
          lt-ltb (stripe_of (literal (x - 2))) (suc s + k) h.1,
          le-ltb (stripe_of (literal (x - 2))) (suc s) h.0,
        ) at r in
        let f = rw (ne_eqb (stripe_of (literal (x - 2))) s (λ e. let a = h.0 in omega arith)) at
        front in omega arith)
    go (inr (inr (inr le))) r = rw (le-ltb (stripe_of (literal (x - 2))) (s + suc k) (omega arith))
        (let r' = rw (le-ltb (stripe_of (literal (x - 2))) (suc s + k) le) at r in
        let f = rw (ne_eqb (stripe_of (literal (x - 2))) s (λ e. omega arith)) at front in
        omega arith)

pub all_tabled : (x n : ℕ) → sum_by (at_home (table_has x)) (homes_from 0 16 n)
    ≡ times x (slots_from 2 n)
all_tabled x n = sum_homes x 0 16 n
    ∙ rw (
      lt-ltb (stripe_of (literal (x - 2))) (0 + 16) (stripe_small (literal (x - 2))),
      le-ltb (stripe_of (literal (x - 2))) 0 (omega arith),
    ) refl

pub homes_at : (s k n j : ℕ) (t : Entries) → get_elem? (homes_from s k n) j ≡ some (some t)
    → t ≡ stripe_entries (s + j) 0 n
homes_at s zero n j t e = absurd (some-ne-none (some t) (sym e))
homes_at s (suc k) n zero t e =
    sym (some-injective (stripe_entries s 0 n) t (some-injective (some (stripe_entries s 0 n))
    (some t) e)) ∙ ap (λ (i : ℕ). stripe_entries i 0 n) (omega arith)
homes_at s (suc k) n (suc j) t e = homes_at (suc s) k n j t e
    ∙ ap (λ (i : ℕ). stripe_entries i 0 n) (omega arith)

pub homes_length : (s k n : ℕ) → length (homes_from s k n) ≡ k
homes_length s zero n = refl
homes_length s (suc k) n = ap suc (homes_length (suc s) k n)

pub homes_there : (s k n j : ℕ) → j < k → home_there (homes_from s k n) j ≡ 1
homes_there s zero n j lt = absurd (omega arith)
homes_there s (suc k) n zero lt = refl
homes_there s (suc k) n (suc j) lt = homes_there (suc s) k n j (omega arith)

-- the children of a literal are constants, so a table of literals owns its entries alone
literal_children : (x m : ℕ) → 2 ≤ x → times x (children (literal m)) ≡ 0
literal_children x m two =
    rw (literal_low m, literal_high m) (omega (
      arith,
      times-other x 0 (1 ∷ []) (λ e. omega arith),
      times-other x 1 [] (λ e. omega arith),
      times-nil x,
    ))

names_has : (x s i n : ℕ) → 2 ≤ x → table_names x (stripe_entries s i n)
    ≡ table_has x (stripe_entries s i n)
unfolding table_names table_has
names_has x s i n two =
    sum_same (λ (e : ℕ × ℕ). times x (e.1 ∷ children e.0)) (λ e. cond (eqb e.1 x) 1 0)
    (stripe_entries s i n)
    (λ j e at. let r = entry_at s i n j e at in
    let none : times x (children e.0) ≡ 0 = ap (λ (d : ℕ × ℕ). times x (children d.0)) r.3
    ∙ literal_children x r.0 two in
    omega (arith, times-cons x e.1 (children e.0)))

pub homes_names : (x s k n : ℕ) → 2 ≤ x → sum_by (at_home (table_names x)) (homes_from s k n)
    ≡ sum_by (at_home (table_has x)) (homes_from s k n)
homes_names x s zero n two = refl
homes_names x s (suc k) n two =
    omega (
      arith,
      sum_by-cons (at_home (table_names x)) (some (stripe_entries s 0 n)) (homes_from (suc s) k n),
      sum_by-cons (at_home (table_has x)) (some (stripe_entries s 0 n)) (homes_from (suc s) k n),
      names_has x s 0 n two,
      homes_names x (suc s) k n two,
    )
