-- The first of all assignments that passes a test.
use Rattle.std.proofs.Common.{◌≡◌, ℕ, zero, suc, Bool, true, false, cond, List, [], ◌∷◌, length}
use Rattle.std.proofs.Common.{map, find, Option, Some, None, option_map, sym, ap, ap₂, refl, ◌∙◌}
use Rattle.std.proofs.Common.{arith}
use Rattle.std.specs.Option.{option_or}
use Rattle.std.proofs.lemmas.List.Folds.{find-append}
use Rattle.eqc_tree.specs.Assigned.{assignments}

-- a search through a mapped list
pub find_map : {X Y : Type 0} (p : Y → Bool) (g : X → Y) (xs : List X) → find p (map g xs)
    ≡ option_map g (find (λ x. p (g x)) xs)
find_map p g [] = refl
find_map p g (x ∷ xs) =
    elim (p (g x)) as (λ b. cond b (Some (g x)) (find p (map g xs))
    ≡ option_map g (cond b (Some x) (find (λ y. p (g y)) xs))) [
      | true ↦ refl
      | false ↦ find_map p g xs
    ]

-- tests that agree find the same
pub find_same : {X : Type 0} (p q : X → Bool) → ((x : X) → p x ≡ q x) → (xs : List X)
    → find p xs ≡ find q xs
find_same p q same [] = refl
find_same p q same (x ∷ xs) = rw (same x, find_same p q same xs) refl

-- the first assignment begins with false where one with false passes, and else with true
pub find_first : (p : List Bool → Bool) (n : ℕ) →
    find p (assignments (suc n)) ≡ option_or (option_map (λ t. false ∷ t) (find (λ t. p (false ∷ t))
    (assignments n))) (option_map (λ t. true ∷ t) (find (λ t. p (true ∷ t)) (assignments n)))
unfolding assignments
find_first p n =
    find-append p (map (λ t. false ∷ t) (assignments n)) (map (λ t. true ∷ t) (assignments n))
    ∙ (rw (find_map p (λ t. false ∷ t) (assignments n), find_map p (λ t. true ∷ t) (assignments n))
    refl)

-- of the one assignment of no inputs
pub find_empty : (p : List Bool → Bool) → find p (assignments 0) ≡ cond (p []) (Some []) None
unfolding assignments
find_empty p = refl

-- nothing is found where none of the length passes
pub find_none : (n : ℕ) (p : List Bool → Bool) → ((t : List Bool) → length t ≡ n → p t ≡ false)
    → find p (assignments n) ≡ None
find_none zero p none = find_empty p ∙ (rw (none [] refl) refl)
find_none (suc n) p none =
    let at_false : find (λ t. p (false ∷ t)) (assignments n) ≡ None =
    find_none n (λ t. p (false ∷ t)) (λ t h. none (false ∷ t) (ap suc h)) in
    let at_true : find (λ t. p (true ∷ t)) (assignments n) ≡ None =
    find_none n (λ t. p (true ∷ t)) (λ t h. none (true ∷ t) (ap suc h)) in
    find_first p n ∙ (rw (at_false, at_true) refl)

-- neither of two options is there where neither is chosen
pub option_or_none : {X : Type 0} (o u : Option X) → option_or o u ≡ None → (o ≡ None) × (u ≡ None)
option_or_none None u e = (refl, e)
option_or_none (Some x) u e = cc

pub option_map_none : {X Y : Type 0} (f : X → Y) (o : Option X) → option_map f o ≡ None → o ≡ None
option_map_none f None e = refl
option_map_none f (Some x) e = cc

test_fails : (b : Bool) (x : List Bool) → cond b (Some x) None ≡ None → b ≡ false
test_fails true x e = cc
test_fails false x e = refl

-- where nothing is found, each of the length fails
pub none_found : (n : ℕ) (p : List Bool → Bool) → find p (assignments n) ≡ None → (t : List Bool)
    → length t ≡ n → p t ≡ false
none_found zero p none [] h = test_fails (p []) [] (sym (find_empty p) ∙ none)
none_found zero p none (b ∷ t) h = absurd (omega arith)
none_found (suc n) p none [] h = absurd (omega arith)
none_found (suc n) p none (b ∷ t) h =
    let both =
    option_or_none (option_map (λ u. false ∷ u) (find (λ u. p (false ∷ u)) (assignments n)))
    (option_map (λ u. true ∷ u) (find (λ u. p (true ∷ u)) (assignments n))) (sym (find_first p n)
    ∙ none) in
    let same : length t ≡ n = omega arith in
    elim b as (λ c. p (c ∷ t) ≡ false) [
      | true ↦ none_found n (λ u. p (true ∷ u)) (option_map_none (λ u. true ∷ u)
          (find (λ u. p (true ∷ u)) (assignments n)) both.1) t same
      | false ↦ none_found n (λ u. p (false ∷ u)) (option_map_none (λ u. false ∷ u)
          (find (λ u. p (false ∷ u)) (assignments n)) both.0) t same
    ]

-- tests that agree at each of the length find the same
pub find_agrees : (n : ℕ) (p q : List Bool → Bool) → ((t : List Bool) → length t ≡ n → p t ≡ q t)
    → find p (assignments n) ≡ find q (assignments n)
find_agrees zero p q same = find_empty p ∙ ap (λ b. cond b (Some []) None) (same [] refl)
    ∙ sym (find_empty q)
find_agrees (suc n) p q same =
    find_first p n
    ∙ ap₂ (λ o u. option_or (option_map (λ t. false ∷ t) o) (option_map (λ t. true ∷ t) u))
    (find_agrees n (λ t. p (false ∷ t)) (λ t. q (false ∷ t)) (λ t h. same (false ∷ t) (ap suc h)))
    (find_agrees n (λ t. p (true ∷ t)) (λ t. q (true ∷ t)) (λ t h. same (true ∷ t) (ap suc h)))
    ∙ sym (find_first q n)
