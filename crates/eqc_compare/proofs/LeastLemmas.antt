-- The first of all assignments that passes a test is below every other that does.
use Rattle.std.proofs.Common.{◌≡◌, ◌⊎◌, inl, inr, ℕ, zero, suc, Bool, true, false, List, [], ◌∷◌}
use Rattle.std.proofs.Common.{length, find, Option, Some, None, option_map, sym, ap, refl, ◌∙◌}
use Rattle.std.proofs.Common.{arith, true≢false}
use Rattle.std.specs.Option.{option_or}
use Rattle.std.proofs.lemmas.Option.{cond_some, same_Some}
use Rattle.std.proofs.lemmas.List.{nil_from_length}
use Rattle.eqc_tree.specs.Assigned.{assignments}
use Rattle.eqc_compare.specs.VerdictLaws.{IsBelow, IsLeast}
use Rattle.eqc_tree.proofs.FindLemmas.{find_first, find_empty, none_found}

-- the least assignment that begins with false is below all others
below_false : (n : ℕ) (p : List Bool → Bool) (t : List Bool) → IsLeast n (λ u. p (false ∷ u)) t
    → (b : List Bool) → length b ≡ suc n → p b ≡ true → (b ≡ false ∷ t) ⊎ IsBelow (false ∷ t) b
below_false n p t least [] h k = absurd (omega arith)
below_false n p t least (true ∷ u) h k = inr tt
below_false n p t least (false ∷ u) h k =
    let long : length u ≡ n = omega arith in
    elim (least.below u long k) [ inl e ↦ inl (ap (λ v. false ∷ v) e) | inr l ↦ inr l ]

-- the least assignment that begins with true is below all others where none begins with false
below_true : (n : ℕ) (p : List Bool → Bool) (t : List Bool) → ((u : List Bool) → length u ≡ n
    → p (false ∷ u) ≡ false) →
    IsLeast n (λ u. p (true ∷ u)) t → (b : List Bool) → length b ≡ suc n → p b ≡ true
    → (b ≡ true ∷ t) ⊎ IsBelow (true ∷ t) b
below_true n p t none least [] h k = absurd (omega arith)
below_true n p t none least (false ∷ u) h k =
    let long : length u ≡ n = omega arith in absurd (true≢false (sym k ∙ none u long))
below_true n p t none least (true ∷ u) h k =
    let long : length u ≡ n = omega arith in
    elim (least.below u long k) [ inl e ↦ inl (ap (λ v. true ∷ v) e) | inr l ↦ inr l ]

-- the least of the two halves of all assignments
least_of_halves : (n : ℕ) (p : List Bool → Bool) (a : List Bool) (o u : Option (List Bool))
    → find (λ t. p (false ∷ t)) (assignments n) ≡ o →
    find (λ t. p (true ∷ t)) (assignments n) ≡ u → ((t : List Bool) → o ≡ Some t
    → IsLeast n (λ v. p (false ∷ v)) t) →
    ((t : List Bool) → u ≡ Some t → IsLeast n (λ v. p (true ∷ v)) t) →
    option_or (option_map (λ t. false ∷ t) o) (option_map (λ t. true ∷ t) u) ≡ Some a
    → IsLeast (suc n) p a
least_of_halves n p a (Some t) u e k low high found =
    let same : a ≡ false ∷ t = sym (same_Some (false ∷ t) a found) in
    let least : IsLeast n (λ v. p (false ∷ v)) t = low t refl in
    rw same (record {
      long = ap suc least.long;
      passes = least.passes;
      below =
          below_false n p t least;
    })
least_of_halves n p a None (Some t) e k low high found =
    let same : a ≡ true ∷ t = sym (same_Some (true ∷ t) a found) in
    let least : IsLeast n (λ v. p (true ∷ v)) t = high t refl in
    let none : (v : List Bool) → length v ≡ n → p (false ∷ v) ≡ false =
    none_found n (λ v. p (false ∷ v)) e in
    rw same (record {
      long = ap suc least.long;
      passes = least.passes;
      below =
          below_true n p t none least;
    })
least_of_halves n p a None None e k low high found = cc

-- what is found is the least
pub found_least : (n : ℕ) (p : List Bool → Bool) (a : List Bool) → find p (assignments n) ≡ Some a
    → IsLeast n p a
found_least zero p a e =
    let both : (p [] ≡ true) × ([] ≡ a) = cond_some (p []) [] a (sym (find_empty p) ∙ e) in
    let same : a ≡ [] = sym both.1 in
    rw same (record { long = refl; passes = both.0; below = λ b h k. inl (nil_from_length b h) })
found_least (suc n) p a e =
    least_of_halves n p a (find (λ t. p (false ∷ t)) (assignments n)) (find (λ t. p (true ∷ t))
    (assignments n)) refl refl
    (λ t. found_least n (λ v. p (false ∷ v)) t)
    (λ t. found_least n (λ v. p (true ∷ v)) t)
    (sym (find_first p n) ∙ e)

-- of two assignments one is not below the other
pub not_both_below : (a b : List Bool) → IsBelow a b → IsBelow b a → ⊥
not_both_below [] b h k = h
not_both_below (x ∷ a) [] h k = h
not_both_below (false ∷ a) (false ∷ b) h k = not_both_below a b h k
not_both_below (false ∷ a) (true ∷ b) h k = k
not_both_below (true ∷ a) (false ∷ b) h k = h
not_both_below (true ∷ a) (true ∷ b) h k = not_both_below a b h k

-- there is one least at most
pub least_unique : (n : ℕ) (p : List Bool → Bool) (a b : List Bool) → IsLeast n p a → IsLeast n p b
    → a ≡ b
least_unique n p a b one other =
    elim (one.below b other.long other.passes) [
      | inl e ↦ sym e
      | inr l ↦ elim (other.below a one.long one.passes) [
        | inl e ↦ e
        | inr m ↦
            absurd (not_both_below a b l m)
      ]
    ]

least_among : (n : ℕ) (p : List Bool → Bool) (a : List Bool) (o : Option (List Bool))
    → IsLeast n p a → find p (assignments n) ≡ o → o ≡ Some a
least_among n p a None least e =
    absurd (true≢false (sym least.passes ∙ none_found n p e a least.long))
least_among n p a (Some b) least e = ap Some (least_unique n p b a (found_least n p b e) least)

-- the least is found
pub least_found : (n : ℕ) (p : List Bool → Bool) (a : List Bool) → IsLeast n p a
    → find p (assignments n) ≡ Some a
least_found n p a least = least_among n p a (find p (assignments n)) least refl
