-- Orders in which each stands after what it depends on, one element longer; and circles, which
-- never end.
use Rattle.std.proofs.Common.{◌==◌, ◌≡◌, ℕ, zero, suc, ◌⊎◌, inl, inr, Bool, true, false, ◌||◌, List}
use Rattle.std.proofs.Common.{[], ◌∷◌, ◌++◌, refl, sym, ◌∙◌, subst, Some}
use Rattle.std.specs.List.{list_all, list_any, slice_get}
use Rattle.std.proofs.lemmas.Bool.{and_parts, and_from, and_left, and_right, or_cases, true≢false}
use Rattle.std.proofs.lemmas.Bool.{eqb-true, eq-eqb}
use Rattle.eqc_netlist.specs.Dependency.{among, in_order, ends_within}
use Rattle.eqc_netlist.proofs.Depth.{or_right}

pub same_all : (p q : ℕ → Bool) (xs : List ℕ) → ((x : ℕ) → p x ≡ q x)
    → list_all p xs ≡ list_all q xs
same_all p q [] h = refl
same_all p q (x ∷ xs) h = rw (h x, same_all p q xs h) refl

pub all_push : (p : ℕ → Bool) (xs : List ℕ) (y : ℕ) → list_all p xs ≡ true → p y ≡ true
    → list_all p (xs ++ y ∷ []) ≡ true
all_push p [] y e h = rw h refl
all_push p (x ∷ xs) y e h = let both = and_parts (p x) (list_all p xs) e in
    and_from (p x) (list_all p (xs ++ y ∷ [])) both.0 (all_push p xs y both.1 h)

pub all_front : (p : ℕ → Bool) (xs ys : List ℕ) → list_all p (xs ++ ys) ≡ true
    → list_all p xs ≡ true
all_front p [] ys e = refl
all_front p (x ∷ xs) ys e = let both = and_parts (p x) (list_all p (xs ++ ys)) e in
    and_from (p x) (list_all p xs) both.0 (all_front p xs ys both.1)

pub all_last : (p : ℕ → Bool) (xs : List ℕ) (y : ℕ) → list_all p (xs ++ y ∷ []) ≡ true → p y ≡ true
all_last p [] y e = (and_parts (p y) true e).0
all_last p (x ∷ xs) y e = all_last p xs y ((and_parts (p x) (list_all p (xs ++ y ∷ [])) e).1)

pub all_among : (p : ℕ → Bool) (xs : List ℕ) (y : ℕ) → list_all p xs ≡ true → among xs y ≡ true
    → p y ≡ true
all_among p [] y e h = absurd (true≢false (sym h))
all_among p (x ∷ xs) y e h =
    let both = and_parts (p x) (list_all p xs) e in
    let P : ℕ → Type 0 = λ z. p z ≡ true in
    elim (or_cases (x == y) (among xs y) h) [
      | inl same ↦ subst P (eqb-true x y same) both.0
      | inr there ↦ all_among p xs y both.1 there
    ]

pub among_left : (xs ys : List ℕ) (x : ℕ) → among xs x ≡ true → among (xs ++ ys) x ≡ true
among_left [] ys x e = absurd (true≢false (sym e))
among_left (y ∷ xs) ys x e = go (y == x) (among xs x) (among (xs ++ ys) x) (λ k. among_left xs ys x
    k) e
  where
    go : (a b c : Bool) → (b ≡ true → c ≡ true) → (a || b) ≡ true → (a || c) ≡ true
    go true b c h k = refl
    go false b c h k = h k

pub among_end : (xs : List ℕ) (x : ℕ) → among (xs ++ x ∷ []) x ≡ true
among_end [] x = rw (eq-eqb x x refl) refl
among_end (y ∷ xs) x = or_right (y == x) (among (xs ++ x ∷ []) x) (among_end xs x)

-- what is among a list with one more is among the list or the one
pub among_push : (xs : List ℕ) (y x : ℕ) → among (xs ++ y ∷ []) x ≡ true → (among xs x ≡ true)
    ⊎ (y ≡ x)
among_push [] y x e = elim (or_cases (y == x) false e) [
  | inl same ↦ inr (eqb-true y x same)
  | inr no_more ↦ absurd (true≢false (sym no_more))
]
among_push (z ∷ xs) y x e = elim (or_cases (z == x) (among (xs ++ y ∷ []) x) e) [
  | inl same ↦ inl (rw same refl)
  | inr there ↦ elim (among_push xs y x there) [
    | inl old ↦ inl (or_right (z == x) (among xs x) old)
    | inr new ↦ inr new
  ]
]

or_swap : (a b c : Bool) → ((a || b) || c) ≡ (b || (a || c))
or_swap true true c = refl
or_swap true false c = refl
or_swap false true c = refl
or_swap false false c = refl

-- a signal whose dependencies stand in the order goes to its end
pub order_more : (deps : ℕ → List ℕ) (done order : List ℕ) (s : ℕ) → in_order deps done order ≡ true
    → list_all (λ x. among order x || among done x) (deps s) ≡ true
    → in_order deps done (order ++ s ∷ []) ≡ true
order_more deps done [] s o h = rw h refl
order_more deps done (t ∷ ts) s o h =
    let both = and_parts (list_all (among done) (deps t)) (in_order deps (t ∷ done) ts) o in
    and_from (list_all (among done) (deps t)) (in_order deps (t ∷ done) (ts ++ s ∷ [])) both.0
    (order_more deps (t ∷ done) ts s both.1
    (sym (same_all (λ x. among (t ∷ ts) x || among done x) (λ x. among ts x || among (t ∷ done) x)
    (deps s)
    (λ x. or_swap (t == x) (among ts x) (among done x)))
    ∙ h))

-- some element passes p, where all that pass p fail q: not all pass q
any_fails : (p q : ℕ → Bool) (xs : List ℕ) → ((x : ℕ) → p x ≡ true → q x ≡ false)
    → list_any p xs ≡ true → list_all q xs ≡ false
any_fails p q [] h e = sym e
any_fails p q (x ∷ xs) h e = elim (or_cases (p x) (list_any p xs) e) [
  | inl here ↦ and_left (q x) (list_all q xs) (h x here)
  | inr there ↦ and_right (q x) (list_all q xs) (any_fails p q xs h there)
]

-- signals that each depend on one of their own kind never end
pub stuck_never_ends : (deps : ℕ → List ℕ) (stuck : ℕ → Bool) → ((s : ℕ) → stuck s ≡ true
    → list_any stuck (deps s) ≡ true) → (steps s : ℕ) → stuck s ≡ true → ends_within deps steps s
    ≡ false
stuck_never_ends deps stuck h zero s e = refl
stuck_never_ends deps stuck h (suc steps) s e = any_fails stuck (ends_within deps steps) (deps s)
    (λ x k. stuck_never_ends deps stuck h steps x k) (h s e)

-- an element that passes is at some place
pub any_at : {X : Type 0} (p : X → Bool) (xs : List X) (k : ℕ) (y : X) → slice_get xs k ≡ Some y
    → p y ≡ true → list_any p xs ≡ true
any_at p [] k y e h = absurd (cc)
any_at {X} p (x ∷ xs) zero y e h =
    let same : x ≡ y = cc in
    let P : X → Type 0 = λ z. (p z || list_any p xs) ≡ true in
    subst P (sym same) (rw h refl)
any_at p (x ∷ xs) (suc k) y e h = or_right (p x) (list_any p xs) (any_at p xs k y e h)
