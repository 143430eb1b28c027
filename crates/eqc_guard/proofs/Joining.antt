-- What a worker knows that took another in.
use Rattle.std.proofs.Common.{◌≡◌, ◌⊎◌, ℕ, zero, suc, ◌<◌, ◌≤◌, List, [], ◌∷◌, ◌++◌, eq-eqb, ne_eqb}
use Rattle.std.proofs.Common.{refl, sym, ap, subst, ◌∙◌, arith, inl, inr, ⊎_elim}
use Rattle.std.proofs.lemmas.Bool.{lt-ltb}
use native.Mathlib.Decide.{ℕ_discrete}
use mathlib.Core.Option.{some, some-injective, some-ne-none}
use lib.ListN.{get_elem?}
use Rattle.eqc_tree.specs.Tree.{Tree, False}
use Rattle.eqc_core.specs.View.{View}
use Rattle.eqc_core.specs.Words.{times}
use Rattle.eqc_core.specs.Seating.{joined}
use Rattle.eqc_core.proofs.Scanning.{some_cases}
use Rattle.eqc_guard.specs.Known.{Known, IsKnown, kept_tree, tree_of, names_of}
use Rattle.eqc_guard.specs.Seats.{only, both}
use Rattle.eqc_guard.specs.Telling.{Settles}
use Rattle.eqc_guard.proofs.Learning.{tree_else}

-- the tree of a name stands in the list
abbrev Stands : List (ℕ × Tree) → ℕ → Tree → Type 0
Stands ps x t = (i : ℕ) × (p : ℕ × Tree) × (get_elem? ps i ≡ some p) × (p.0 ≡ x) × (p.1 ≡ t)

kept_cases : (ps : List (ℕ × Tree)) (x : ℕ) → Stands ps x (kept_tree ps x)
    ⊎ (kept_tree ps x ≡ False)
kept_cases [] x = inr refl
kept_cases (p ∷ ps) x = go (ℕ_discrete p.0 x) (kept_cases ps x)
  where
    go : Dec (p.0 ≡ x) → Stands ps x (kept_tree ps x) ⊎ (kept_tree ps x ≡ False)
        → Stands (p ∷ ps) x (kept_tree (p ∷ ps) x) ⊎ (kept_tree (p ∷ ps) x ≡ False)
    go (yes e) r = rw (eq-eqb p.0 x e) (inl (0, p, refl, e, refl))
    go (no n) (inl r) = rw (ne_eqb p.0 x n) (inl (suc r.0, r.1, r.2, r.3, r.4))
    go (no n) (inr r) = rw (ne_eqb p.0 x n) (inr r)

-- a named name has a tree in the list, since its tree is not that of false
named_stands : (k : Known) → IsKnown k → (x : ℕ) → 2 ≤ x → 0 < times x (names_of k.core)
    → Stands k.trees x (tree_of k x)
named_stands k known x two named = ⊎_elim
    (λ (r : Stands k.trees x (kept_tree k.trees x)). subst (λ (t : Tree). Stands k.trees x t)
    (sym (tree_else k.trees x two)) r)
    (λ (e : kept_tree k.trees x ≡ False). absurd (let q : x ≡ 0 =
    known.one x 0 (inr named) (inl (omega arith)) (tree_else k.trees x two ∙ e) in omega arith))
    (kept_cases k.trees x)

first_has : {A : Type 0} (a b : List A) (i : ℕ) (q : A) → get_elem? a i ≡ some q
    → get_elem? (a ++ b) i ≡ some q
first_has [] b i q e = absurd (some-ne-none q (sym e))
first_has (x ∷ xs) b zero q e = e
first_has (x ∷ xs) b (suc i) q e = first_has xs b i q e

second_has : {A : Type 0} (a b : List A) (i : ℕ) (q : A) → get_elem? b i ≡ some q → (j : ℕ)
    × (get_elem? (a ++ b) j ≡ some q)
second_has [] b i q e = (i, e)
second_has (x ∷ xs) b i q e = let r = second_has xs b i q e in (suc r.0, r.1)

only_has : (xs : List ℕ) (ps : List (ℕ × Tree)) (i : ℕ) (q : ℕ × Tree) → get_elem? ps i ≡ some q
    → 0 < times q.0 xs → (j : ℕ) × (get_elem? (only xs ps) j ≡ some q)
only_has xs [] i q e named = absurd (some-ne-none q (sym e))
only_has xs (p ∷ ps) zero q e named =
    let s : p ≡ q = some-injective p q e in
    rw (lt-ltb 0 (times p.0 xs) (subst (λ (t : ℕ × Tree). 0 < times t.0 xs) (sym s) named)) (0, e)
only_has xs (p ∷ ps) (suc i) q e named =
    let r = only_has xs ps i q e named in
    elim (some_cases (times p.0 xs)) [ inl t ↦ rw t.0 (suc r.0, r.1) | inr t ↦ rw t.0 r ]

module _ (k o after : Known) (mine : IsKnown k) (theirs : IsKnown o) (core : after.core
    ≡ joined k.core o.core.number o.core) (settles : Settles (both k o) 0 after) where
  settled : (x : ℕ) (t : Tree) → 0 < times x (names_of after.core) → ((j : ℕ) × (p : ℕ × Tree)
      × (get_elem? (k.trees ++ o.trees) j ≡ some p) × (p.0 ≡ x) × (p.1 ≡ t)) → tree_of after x ≡ t
  settled x t named r =
      let p : ℕ × Tree = r.1 in
      let there : 0 < times r.1.0 (names_of (joined k.core o.core.number o.core)) =
      subst (λ (y : ℕ). 0 < times y (names_of (joined k.core o.core.number o.core))) (sym r.3)
      (subst (λ (v : View). 0 < times x (names_of v)) core named) in
      let s = only_has (names_of (joined k.core o.core.number o.core)) (k.trees ++ o.trees) r.0 r.1
      r.2 there in
      ap (λ (y : ℕ). tree_of after y) (sym r.3) ∙ (settles s.0 r.1 s.1 ∙ r.4)

  pub my_trees : (x : ℕ) → 2 ≤ x → 0 < times x (names_of k.core) → 0 < times x (names_of after.core)
      → tree_of after x ≡ tree_of k x
  my_trees x two was is =
      let r = named_stands k mine x two was in
      settled x (tree_of k x) is (r.0, r.1, first_has k.trees o.trees r.0 r.1 r.2, r.3, r.4)

  pub their_trees : (x : ℕ) → 2 ≤ x → 0 < times x (names_of o.core)
      → 0 < times x (names_of after.core) → tree_of after x ≡ tree_of o x
  their_trees x two was is =
      let r = named_stands o theirs x two was in
      let s = second_has k.trees o.trees r.0 r.1 r.2 in
      settled x (tree_of o x) is (s.0, r.1, s.1, r.3, r.4)
