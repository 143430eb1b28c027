-- The result of an operation starts no higher than both operands: it does not see what neither
-- sees.
use Rattle.std.proofs.Common.{◌≡◌, ℕ, suc, ◌<◌, ◌≤◌, Bool, true, false, eq-eqb, refl, sym, ◌∙◌}
use Rattle.std.proofs.Common.{subst, arith}
use native.Mathlib.Decide.{dec_le, ℕ_discrete}
use Rattle.eqc_tree.specs.Tree.{Tree, False, True, Node, value, StartsAbove, IsOrdered, IsCanonical}
use Rattle.eqc_tree.specs.Operation.{operate}
use Rattle.eqc_tree.specs.declared.operation.Op.{Op}
use Rattle.eqc_tree.proofs.Uniqueness.{set_at, above_trans, value-set_at, bryant}

at_set : (v : ℕ) (b : Bool) (a : ℕ → Bool) → set_at a v b v ≡ b
at_set v b a = rw (eq-eqb v v refl) refl

-- a node with its variable set is one of its children
node_low : (v : ℕ) (l h : Tree) (a : ℕ → Bool) → IsOrdered (Node v l h)
    → value (Node v l h) (set_at a v false) ≡ value l a
node_low v l h a o = rw (at_set v false a) (value-set_at v false l a o.0 o.2)

node_high : (v : ℕ) (l h : Tree) (a : ℕ → Bool) → IsOrdered (Node v l h)
    → value (Node v l h) (set_at a v true) ≡ value h a
node_high v l h a o = rw (at_set v true a) (value-set_at v true h a o.1 o.3)

-- what starts above v starts above all up to v
up_to : (w v : ℕ) (t : Tree) → w ≤ v → StartsAbove v t → StartsAbove w t
up_to w v t le s = elim (ℕ_discrete w v) [
  | yes e ↦ subst (λ (u : ℕ). StartsAbove u t) (sym e) s
  | no d ↦ above_trans w v t (less w v le d) s
]
  where
    less : (w v : ℕ) → w ≤ v → (w ≡ v → ⊥) → w < v
    less w v le d = elim (dec_le (suc w) v) [ yes h ↦ h | no m ↦ absurd (d (omega arith)) ]

module _ (op : Op) (f g : Tree) (cf : IsCanonical f) (cg : IsCanonical g) where
  -- an operation does not see what is set at w, where both operands start above it
  unseen : (w : ℕ) (b : Bool) (a : ℕ → Bool) → StartsAbove w f → StartsAbove w g
      → operate op (value f (set_at a w b)) (value g (set_at a w b)) ≡ operate op (value f a)
      (value g a)
  unseen w b a sf sg = λ i. operate op (value-set_at w b f a sf cf.ordered i)
      (value-set_at w b g a sg cg.ordered i)

  pub starts_both : (x : Tree) → IsCanonical x
      → ((a : ℕ → Bool) → value x a ≡ operate op (value f a) (value g a)) → (v : ℕ)
      → StartsAbove v f → StartsAbove v g → StartsAbove v x
  starts_both False c is v sf sg = tt
  starts_both True c is v sf sg = tt
  starts_both (Node w l h) c is v sf sg = elim (dec_le (suc v) w) [
    | yes below ↦ below
    | no m ↦
        let le : w ≤ v = omega arith in
        let wf = up_to w v f le sf in
        let wg = up_to w v g le sg in
        let same : (a : ℕ → Bool) → value l a ≡ value h a = λ a.
        sym (node_low w l h a c.ordered) ∙ (is (set_at a w false) ∙ (unseen w false a wf wg
        ∙ (sym (unseen w true a wf wg) ∙ (sym (is (set_at a w true))
        ∙ node_high w l h a c.ordered)))) in
        absurd (c.reduced.0 (bryant l h (record { ordered = c.ordered.2; reduced = c.reduced.1 })
        (record { ordered = c.ordered.3; reduced = c.reduced.2 }) same))
  ]
