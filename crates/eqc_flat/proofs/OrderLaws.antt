-- An order that has each of n signals and no more than n places has each once.
use Rattle.std.proofs.Common.{◌==◌, ◌≡◌, ℕ, zero, suc, ◌+◌, ◌<◌, ◌≤◌, inl, inr, Bool, true, false}
use Rattle.std.proofs.Common.{List, [], ◌∷◌, ◌++◌, length, take, drop, get_or, refl, sym, ◌∙◌, ap}
use Rattle.std.proofs.Common.{subst, arith, nat_lt}
use Rattle.std.specs.List.{range_with_len, list_all}
use Rattle.std.proofs.lemmas.Bool.{true≢false, or_cases, eqb-true, cases_lt, cases_eq, ltb-true}
use Rattle.std.proofs.lemmas.Bool.{lt-ltb}
use Rattle.std.proofs.lemmas.List.{length-append, length-take-le, length-drop}
use Rattle.std.proofs.lemmas.List.FromFn.{length-range_with_len}
use Rattle.eqc_netlist.specs.Graph.{DriverOf}
use Rattle.eqc_netlist.specs.Dependency.{among}
use Rattle.eqc_hierarchy.specs.Searching.{IsSearch}
use Rattle.eqc_flat.specs.Ordering.{IsOrder, HasNoOrder}
use Rattle.eqc_netlist.specs.Drivers.{signal_deps}
use Rattle.eqc_hierarchy.specs.declared.search.Stage.{Stage}
use Rattle.eqc_netlist.proofs.Depth.{all_more}
use Rattle.eqc_hierarchy.proofs.Distinct.{Member, Distinct, member_append, member_left}
use Rattle.eqc_hierarchy.proofs.Distinct.{member_right, distinct_range}
use Rattle.eqc_hierarchy.proofs.PathLaws.{range_below}
use Rattle.eqc_netlist.proofs.Members.{all_at}

pub among_member : (xs : List ℕ) (x : ℕ) → among xs x ≡ true → Member x xs
among_member [] x e = absurd (true≢false (sym e))
among_member (y ∷ xs) x e = elim (or_cases (y == x) (among xs x) e) [
  | inl same ↦
      inl (eqb-true y x same)
  | inr there ↦ inr (among_member xs x there)
]

-- a list without one of its members
split_at : {X : Type 0} (x : X) (xs : List X) → Member x xs → (front : List X) × (back : List X)
    × (xs ≡ front ++ x ∷ back)
split_at x [] h = absurd h
split_at x (y ∷ xs) (inl same) = ([], xs, ap (λ z. z ∷ xs) same)
split_at x (y ∷ xs) (inr there) = let (front, back, is) = split_at x xs there in
    (y ∷ front, back, ap (λ zs. y ∷ zs) is)

-- different members of a list are at most as many as the list has places
pub at_most : {X : Type 0} (ys xs : List X) → Distinct ys → ((y : X) → Member y ys → Member y xs)
    → length ys ≤ length xs
at_most [] xs d h = omega arith
at_most {X} (y ∷ ys) xs d h =
    let (front, back, is) = split_at y xs (h y (inl refl)) in
    let rest : length ys ≤ length (front ++ back) =
    at_most ys (front ++ back) d.1
    (λ z k.
    without z front back (λ e. d.0 (let P : X → Type 0 = λ w. Member w ys in subst P e k))
    (let P : List X → Type 0 = λ w. Member z w in subst P is (h z (inr k)))) in
    let long : length xs ≡ length front + suc (length back) = ap length is
    ∙ length-append front (y ∷ back) in
    let short : length (front ++ back) ≡ length front + length back = length-append front back in
    omega (arith, rest, long, short)
  where
    without : (z : X) (front back : List X) → (z ≡ y → ⊥) → Member z (front ++ y ∷ back)
        → Member z (front ++ back)
    without z front back other e = elim (member_append z front (y ∷ back) e) [
      | inl left ↦ member_left z front back left
      | inr right ↦ elim right [
        | inl same ↦ absurd (other (sym same))
        | inr more ↦
            member_right z front back more
      ]
    ]

-- n numbers below n are in a list of at least n places
pub covered : (n : ℕ) (xs : List ℕ) → ((s : ℕ) → s < n → Member s xs) → n ≤ length xs
covered n xs h =
    let most =
    at_most (range_with_len 0 n) xs (distinct_range 0 n) (λ y k. h y (let b : y < 0 + n =
    range_below 0 n y k in omega (arith, b))) in
    omega (arith, most, length-range_with_len 0 n)

-- a list without the element at a place still has what it has elsewhere
dropped : (xs : List ℕ) (i j y : ℕ) → i < j → j < length xs → get_or xs i 0 ≡ get_or xs j 0
    → Member y xs → Member y (take j xs ++ drop (suc j) xs)
dropped [] i j y a b e h = absurd h
dropped (x ∷ xs) i zero y a b e h = absurd (omega arith)
dropped (x ∷ xs) zero (suc j) y a b e (inl same) = inl same
dropped (x ∷ xs) zero (suc j) y a b e (inr there) = elim (cases_eq y x) [
  | inl same ↦ inl (sym same)
  | inr other ↦ inr (apart xs j y (omega arith) there (λ k. other (k ∙ sym e)))
]
  where
    apart : (xs : List ℕ) (j y : ℕ) → j < length xs → Member y xs → (y ≡ get_or xs j 0 → ⊥)
        → Member y (take j xs ++ drop (suc j) xs)
    apart [] j y b h other = absurd h
    apart (z ∷ xs) zero y b (inl same) other = absurd (other (sym same))
    apart (z ∷ xs) zero y b (inr there) other = there
    apart (z ∷ xs) (suc j) y b (inl same) other = inl same
    apart (z ∷ xs) (suc j) y b (inr there) other = inr (apart xs j y (omega arith) there other)
dropped (x ∷ xs) (suc i) (suc j) y a b e (inl same) = inl same
dropped (x ∷ xs) (suc i) (suc j) y a b e (inr there) =
    inr (dropped xs i j y (omega arith) (omega arith) e there)

before : (n : ℕ) (xs : List ℕ) (i j : ℕ) → ((s : ℕ) → s < n → Member s xs) → length xs ≤ n → i < j
    → j < length xs → get_or xs i 0 ≡ get_or xs j 0 → ⊥
before n xs i j h few a b e =
    let rest : n ≤ length (take j xs ++ drop (suc j) xs) = covered n (take j xs ++ drop (suc j) xs)
    (λ s k. dropped xs i j s a b e (h s k)) in
    let short : length (take j xs ++ drop (suc j) xs) ≡ length (take j xs)
    + length (drop (suc j) xs) = length-append (take j xs) (drop (suc j) xs) in
    absurd (omega (
      arith,
      rest,
      short,
      length-take-le j xs (omega (arith, b)),
      length-drop (suc j) xs,
      few,
      b,
    ))

-- equal elements of such an order are at equal places
pub order_once : (n : ℕ) (xs : List ℕ) → ((s : ℕ) → s < n → among xs s ≡ true) → length xs ≤ n
    → (i j : ℕ) → i < length xs → j < length xs → get_or xs i 0 ≡ get_or xs j 0 → i ≡ j
order_once n xs h few i j a b e = elim (cases_lt i j) [
  | inl less ↦ absurd (before n xs i j (λ s k. among_member xs s (h s k)) few less b e)
  | inr more ↦ elim (cases_lt j i) [
    | inl less ↦ absurd (before n xs j i (λ s k. among_member xs s (h s k)) few less a (sym e))
    | inr equal ↦ omega (arith, more, equal)
  ]
]

pub order_length : (n : ℕ) (xs : List ℕ) → ((s : ℕ) → s < n → among xs s ≡ true) → length xs ≤ n
    → length xs ≡ n
order_length n xs h few = let least = covered n xs (λ s k. among_member xs s (h s k)) in
    omega (arith, least, few)

-- a search that went over all signals has an order of them
pub search_order : (drivers : List DriverOf) (n : ℕ) (stages : List Stage) (order : List ℕ)
    → IsSearch (signal_deps drivers) n stages [] order → n ≡ length drivers
    → ((s : ℕ) → s < n → among order s ≡ true)
    → IsOrder drivers order
search_order drivers n stages order h size all = record {
  ordered = h.sorted;
  each = λ s inside. all s (omega (arith, size, inside));
  count = order_length n order all few ∙ size;
  within = λ k inside. let less : get_or order k 0 < n =
      ltb-true (get_or order k 0) n (all_at (λ s. nat_lt s n) order k 0 h.order_within inside) in
      omega (arith, less, size);
  once = order_once n order all few;
}
  where
    few : length order ≤ n
    few = omega (arith, h.counted)

pub small_order : (deps : ℕ → List ℕ) (n : ℕ) (stages : List Stage) (order : List ℕ)
    → IsSearch deps n stages [] order → n ≤ 1048576 → list_all (λ x. nat_lt x 1048576) order ≡ true
small_order deps n stages order h few = all_more (λ s. nat_lt s n) (λ x. nat_lt x 1048576) order
    (λ x e. let less = ltb-true x n e in lt-ltb x 1048576 (omega (arith, less, few))) h.order_within

-- a search that would come to an end only with an order comes to none where there is no order
pub not_ended : (drivers : List DriverOf) (order : List ℕ) (ended : Bool) → HasNoOrder drivers
    → (ended ≡ true → IsOrder drivers order) → ended ≡ false
not_ended drivers order false none sorted = refl
not_ended drivers order true none sorted = absurd (none order (sorted refl))
