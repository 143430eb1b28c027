-- Depths in a graph of numbered signals: how far down everything that a signal depends on goes.
use Rattle.std.proofs.Common.{zero-add, add-zero, ◌==◌, ◌≡◌, ℕ, zero, suc, ◌+◌, ◌⊎◌, inl, inr, Bool}
use Rattle.std.proofs.Common.{true, false, ◌||◌, List, [], ◌∷◌, length, refl, sym, ap, subst, arith}
use Rattle.std.specs.List.{list_all}
use Rattle.std.proofs.lemmas.Bool.{and_parts, and_from, or_cases, true≢false, eqb-true}
use Rattle.eqc_netlist.specs.Dependency.{among, in_order, ends_within}

-- a test that follows from another holds of all elements where the other does
pub all_more : (p q : ℕ → Bool) (xs : List ℕ) → ((x : ℕ) → p x ≡ true → q x ≡ true)
    → list_all p xs ≡ true → list_all q xs ≡ true
all_more p q [] h e = refl
all_more p q (x ∷ xs) h e =
    let both = and_parts (p x) (list_all p xs) e in
    and_from (q x) (list_all q xs) (h x both.0) (all_more p q xs h both.1)

-- what ends within a depth ends within the next
pub ends_more : (deps : ℕ → List ℕ) (d s : ℕ) → ends_within deps d s ≡ true
    → ends_within deps (suc d) s ≡ true
ends_more deps zero s e = absurd (true≢false (sym e))
ends_more deps (suc d) s e = all_more (ends_within deps d) (ends_within deps (suc d)) (deps s)
    (λ x k. ends_more deps d x k) e

pub or_right : (x y : Bool) → y ≡ true → (x || y) ≡ true
or_right true y e = refl
or_right false y e = e

-- what is among a longer list is its head or among the rest
pub among_cases : (t : ℕ) (ts : List ℕ) (x : ℕ) → among (t ∷ ts) x ≡ true → (t ≡ x)
    ⊎ (among ts x ≡ true)
among_cases t ts x e = elim (or_cases (t == x) (among ts x) e) [
  | inl h ↦ inl (eqb-true t x h)
  | inr h ↦ inr h
]

-- a signal that is still to come or stands before: so it is once the next stands before too
moved : (t : ℕ) (ts done : List ℕ) (s : ℕ) → (among (t ∷ ts) s ≡ true) ⊎ (among done s ≡ true)
    → (among ts s ≡ true) ⊎ (among (t ∷ done) s ≡ true)
moved t ts done s (inl e) = elim (or_cases (t == s) (among ts s) e) [
  | inl h ↦
      inr (ap (λ b. b || among done s) h)
  | inr h ↦ inl h
]
moved t ts done s (inr e) = inr (or_right (t == s) (among done s) e)

-- where those that stand before end within n, all end within n and one more for each signal to come
order_ends : (deps : ℕ → List ℕ) (done order : List ℕ) (n : ℕ) → ((x : ℕ) → among done x ≡ true
    → ends_within deps n x ≡ true)
    → in_order deps done order ≡ true → (s : ℕ) → (among order s ≡ true) ⊎ (among done s ≡ true)
    → ends_within deps (length order + n) s ≡ true
order_ends deps done [] n h o s (inl e) = absurd (true≢false (sym e))
order_ends deps done [] n h o s (inr e) = rw zero-add (h s e)
order_ends deps done (t ∷ ts) n h o s e =
    let both = and_parts (list_all (among done) (deps t)) (in_order deps (t ∷ done) ts) o in
    let now : ends_within deps (suc n) t ≡ true = all_more (among done) (ends_within deps n)
    (deps t) h both.0 in
    let P : ℕ → Type 0 = λ x. ends_within deps (suc n) x ≡ true in
    let next = λ (x : ℕ) (k : among (t ∷ done) x ≡ true).
    elim (among_cases t done x k) as (λ _. ends_within deps (suc n) x ≡ true) [
      | inl same ↦ subst P same now
      | inr old ↦ ends_more deps n x (h x old)
    ] in
    let found = order_ends deps (t ∷ done) ts (suc n) next both.1 s (moved t ts done s e) in
    let same : suc (length ts) + n ≡ length ts + suc n = omega arith in
    rw same found

-- in an order in which each stands after what it depends on, all end within its length
pub ordered_ends : (deps : ℕ → List ℕ) (order : List ℕ) → in_order deps [] order ≡ true → (s : ℕ)
    → among order s ≡ true → ends_within deps (length order) s ≡ true
ordered_ends deps order o s e =
    rw add-zero at (order_ends deps [] order 0 (λ x k. absurd (true≢false (sym k))) o s (inl e))
