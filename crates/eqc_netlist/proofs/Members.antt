-- Members of lists of numbers: where they stand, in joined lists, and tests on all or some of them.
use Rattle.std.proofs.Common.{◌==◌, ◌≡◌, ℕ, zero, suc, ◌<◌, ◌⊎◌, inl, inr, Bool, true, false, ◌||◌}
use Rattle.std.proofs.Common.{List, [], ◌∷◌, ◌++◌, length, get_or, refl, sym, ◌∙◌, ap, subst, arith}
use Rattle.std.proofs.Common.{Some}
use Rattle.std.specs.List.{list_all, list_any, flat_map, slice_get}
use Rattle.std.proofs.lemmas.Bool.{and_from, or_cases, or_left, true≢false, eq-eqb, ne_eqb}
use Rattle.std.proofs.lemmas.Bool.{and_parts}
use Rattle.eqc_netlist.specs.Dependency.{among, in_order}
use Rattle.eqc_netlist.proofs.Depth.{or_right, among_cases}
use Rattle.eqc_netlist.proofs.Orders.{among_left, all_among}

-- two tests that follow from one another are the same
pub same_test : (a b : Bool) → (a ≡ true → b ≡ true) → (b ≡ true → a ≡ true) → a ≡ b
same_test true b there back = sym (there refl)
same_test false true there back = back refl
same_test false false there back = refl

pub among_at : (xs : List ℕ) (k : ℕ) → k < length xs → among xs (get_or xs k 0) ≡ true
among_at [] k h = absurd (omega arith)
among_at (x ∷ xs) zero h = rw (eq-eqb x x refl) refl
among_at (x ∷ xs) (suc k) h = or_right (x == get_or xs k 0) (among xs (get_or xs k 0))
    (among_at xs k (omega arith))

pub at_among : (xs : List ℕ) (x : ℕ) → among xs x ≡ true → (i : ℕ) × (i < length xs)
    × (get_or xs i 0 ≡ x)
at_among [] x e = absurd (true≢false (sym e))
at_among (y ∷ xs) x e = elim (among_cases y xs x e) [
  | inl same ↦ (0, omega arith, same)
  | inr there ↦ let w = at_among xs x there in (suc w.0, omega (arith, w.1), w.2)
]

pub among_head : (x : ℕ) (xs : List ℕ) → among (x ∷ xs) x ≡ true
among_head x xs = rw (eq-eqb x x refl) refl

pub among_here : (y : ℕ) (xs : List ℕ) (x : ℕ) → y ≡ x → among (y ∷ xs) x ≡ true
among_here y xs x same = rw (eq-eqb y x same) refl

pub among_right : (xs ys : List ℕ) (x : ℕ) → among ys x ≡ true → among (xs ++ ys) x ≡ true
among_right [] ys x e = e
among_right (y ∷ xs) ys x e = or_right (y == x) (among (xs ++ ys) x) (among_right xs ys x e)

-- what is among two lists joined is among one of them
pub among_append : (xs ys : List ℕ) (x : ℕ) → among (xs ++ ys) x ≡ true → (among xs x ≡ true)
    ⊎ (among ys x ≡ true)
among_append [] ys x e = inr e
among_append (y ∷ xs) ys x e = elim (among_cases y (xs ++ ys) x e) [
  | inl same ↦ inl (rw (eq-eqb y x same) refl)
  | inr there ↦ elim (among_append xs ys x there) [
    | inl first ↦
        inl (or_right (y == x) (among xs x) first)
    | inr second ↦ inr second
  ]
]

-- one more element changes nothing for the others
pub among_other : (xs : List ℕ) (t x : ℕ) → (t ≡ x → ⊥) → among (xs ++ t ∷ []) x ≡ among xs x
among_other [] t x other = rw (ne_eqb t x other) refl
among_other (y ∷ xs) t x other = ap (λ b. (y == x) || b) (among_other xs t x other)

-- members of lists joined for the members of a list
pub among_flat : (f : ℕ → List ℕ) (xs : List ℕ) (x y : ℕ) → among xs x ≡ true → among (f x) y ≡ true
    → among (flat_map f xs) y ≡ true
among_flat f [] x y e h = absurd (true≢false (sym e))
among_flat f (z ∷ xs) x y e h =
    let P : ℕ → Type 0 = λ w. among (f w) y ≡ true in
    elim (among_cases z xs x e) [
      | inl same ↦ among_left (f z) (flat_map f xs) y (subst P (sym same) h)
      | inr there ↦ among_right (f z) (flat_map f xs) y (among_flat f xs x y there h)
    ]

pub flat_among : (f : ℕ → List ℕ) (xs : List ℕ) (y : ℕ) → among (flat_map f xs) y ≡ true → (x : ℕ)
    × (among xs x ≡ true) × (among (f x) y ≡ true)
flat_among f [] y e = absurd (true≢false (sym e))
flat_among f (z ∷ xs) y e = elim (among_append (f z) (flat_map f xs) y e) [
  | inl here ↦ (z, among_head z xs, here)
  | inr there ↦ let w = flat_among f xs y there in (
    w.0,
    or_right (z == w.0) (among xs w.0) w.1,
    w.2,
  )
]

-- what holds of each member holds of all
pub all_members : (p : ℕ → Bool) (xs : List ℕ) → ((x : ℕ) → among xs x ≡ true → p x ≡ true)
    → list_all p xs ≡ true
all_members p [] h = refl
all_members p (x ∷ xs) h = and_from (p x) (list_all p xs) (h x (among_head x xs))
    (all_members p xs (λ y e. h y (or_right (x == y) (among xs y) e)))

-- a member that passes
pub any_member : (p : ℕ → Bool) (xs : List ℕ) (x : ℕ) → among xs x ≡ true → p x ≡ true
    → list_any p xs ≡ true
any_member p [] x e h = absurd (true≢false (sym e))
any_member p (y ∷ xs) x e h =
    let P : ℕ → Type 0 = λ w. p w ≡ true in
    elim (among_cases y xs x e) [
      | inl same ↦ or_left (p y) (list_any p xs) (subst P (sym same) h)
      | inr there ↦ or_right (p y) (list_any p xs) (any_member p xs x there h)
    ]

pub member_any : (p : ℕ → Bool) (xs : List ℕ) → list_any p xs ≡ true → (x : ℕ) × (among xs x ≡ true)
    × (p x ≡ true)
member_any p [] e = absurd (true≢false (sym e))
member_any p (y ∷ xs) e = elim (or_cases (p y) (list_any p xs) e) [
  | inl here ↦ (y, among_head y xs, here)
  | inr there ↦ let w = member_any p xs there in (w.0, or_right (y == w.0) (among xs w.0) w.1, w.2)
]

-- whether some member passes depends on the members alone
pub any_same_members : (p : ℕ → Bool) (xs ys : List ℕ) → ((x : ℕ) → among xs x ≡ among ys x)
    → list_any p xs ≡ list_any p ys
any_same_members p xs ys same =
    same_test (list_any p xs) (list_any p ys)
    (λ e. let w = member_any p xs e in any_member p ys w.0 (sym (same w.0) ∙ w.1) w.2)
    (λ e. let w = member_any p ys e in any_member p xs w.0 (same w.0 ∙ w.1) w.2)

-- an element at a place is among the list
pub among_get : (xs : List ℕ) (k x : ℕ) → slice_get xs k ≡ Some x → among xs x ≡ true
among_get [] k x e = absurd (cc)
among_get (y ∷ xs) zero x e = let same : y ≡ x = cc in rw (eq-eqb y x same) refl
among_get (y ∷ xs) (suc k) x e = or_right (y == x) (among xs x) (among_get xs k x e)

-- what a signal of an order depends on stands before it
pub before_at : (deps : ℕ → List ℕ) (done order : List ℕ) (k t : ℕ) → in_order deps done order
    ≡ true → k < length order
    → among (deps (get_or order k 0)) t ≡ true → (among done t ≡ true)
    ⊎ ((i : ℕ) × (i < k) × (get_or order i 0 ≡ t))
before_at deps done [] k t o h e = absurd (omega arith)
before_at deps done (s ∷ ss) zero t o h e =
    inl (all_among (among done) (deps s) t ((and_parts (list_all (among done) (deps s))
    (in_order deps (s ∷ done) ss) o).0) e)
before_at deps done (s ∷ ss) (suc k) t o h e =
    elim (before_at deps (s ∷ done) ss k t ((and_parts (list_all (among done) (deps s))
    (in_order deps (s ∷ done) ss) o).1) (omega arith) e) [
      | inl there ↦ elim (among_cases s done t there) [
        | inl same ↦ inr (0, omega arith, same)
        | inr old ↦ inl old
      ]
      | inr w ↦ inr (suc w.0, omega (arith, w.1), w.2)
    ]

pub all_at : (p : ℕ → Bool) (xs : List ℕ) (k d : ℕ) → list_all p xs ≡ true → k < length xs
    → p (get_or xs k d) ≡ true
all_at p [] k d e h = absurd (omega arith)
all_at p (x ∷ xs) zero d e h = (and_parts (p x) (list_all p xs) e).0
all_at p (x ∷ xs) (suc k) d e h = all_at p xs k d ((and_parts (p x) (list_all p xs) e).1)
    (omega arith)
