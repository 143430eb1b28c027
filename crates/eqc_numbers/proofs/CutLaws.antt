-- What is left of a graph where some nodes are inputs of their own.
use Rattle.std.proofs.Common.{◌≡◌, ℕ, ◌+◌, ◌*◌, ◌/◌, ◌%◌, ◌-◌, ◌<◌, ◌≤◌, Bool, true, false, not}
use Rattle.std.proofs.Common.{◌&&◌, List, [], ◌∷◌, length, get_or, refl, sym, ◌∙◌, ap, subst}
use Rattle.std.proofs.Common.{inl, inr, ◌⊎◌, ⊎_elim, arith}
use Rattle.std.proofs.lemmas.Bool.{cases_eq, cases_lt}
use Rattle.eqc_xag.specs.declared.node.Node.{Node}
use Rattle.eqc_xag.specs.declared.node.Node.TheVariants.{Constant, Input, And, Xor}
use Rattle.eqc_xag.specs.Graph.{literal_value, node_value, differ, IsBelow, IsGraph, Extends}
use Rattle.eqc_xag.proofs.GraphLemmas.{value_of_zero}
use Rattle.eqc_sums.specs.Adding.{AreEqualWords}
use Rattle.eqc_numbers.specs.Cuts.{IsLift, IsCut, StandsFor}
use Rattle.eqc_numbers.proofs.CasesLaws.{of_node, beyond}

-- the literals of the first nodes have the same values in both graphs
pub record IsCutTo (old : List Node) (k : ℕ) (new : List Node) : Type 0 where
  pub same : (a b : ℕ → Bool) (l : ℕ) → IsLift old a b → l / 2 < k
      → literal_value new b l ≡ literal_value old a l

-- an input of its own has the node's value
pub cut_stands : (k v : ℕ) (n : Node) → v ≡ 1073741824 + k → StandsFor k n (Input v)
cut_stands k v n is = record {
  value = λ old a b f g lift below same says. ap b is ∙ (lift.nodes k ∙ says);
}

-- a node stands for itself
pub input_stands : (k v : ℕ) (n : Node) → n ≡ Input v → v < 1073741824 → StandsFor k n n
input_stands k v n is less = record {
  value = λ old a b f g lift below same says.
      ap (node_value b f) is ∙ (lift.inputs v less ∙ sym (ap (node_value a g) is));
}

pub constant_stands : (k : ℕ) (n : Node) → n ≡ Constant → StandsFor k n n
constant_stands k n is = record {
  value = λ old a b f g lift below same says.
      ap (node_value b f) is ∙ sym (ap (node_value a g) is);
}

pub and_stands : (k x y : ℕ) (n : Node) → n ≡ And x y → StandsFor k n n
and_stands k x y n is = record {
  value = λ old a b f g lift below same says.
      let both = subst (λ m. IsBelow k m) is below in
      ap (node_value b f) is
      ∙ (ap (λ t. t && f y) (same x both.0)
      ∙ (ap (λ t. g x && t) (same y both.1) ∙ sym (ap (node_value a g) is)));
}

pub xor_stands : (k x y : ℕ) (n : Node) → n ≡ Xor x y → StandsFor k n n
xor_stands k x y n is = record {
  value = λ old a b f g lift below same says.
      let both = subst (λ m. IsBelow k m) is below in
      ap (node_value b f) is
      ∙ (ap (λ t. differ t (f y)) (same x both.0)
      ∙ (ap (λ t. differ (g x) t) (same y both.1) ∙ sym (ap (node_value a g) is)));
}

-- the constant is in both
pub cut_begins : (old new : List Node) → IsGraph old → IsGraph new → IsCutTo old 1 new
cut_begins old new graph begun = record {
  same = λ a b l lift less.
      let zero : l / 2 ≡ 0 = omega (arith, less) in
      of_node old new a b l (ap (λ i. literal_value new b (2 * i)) zero
      ∙ (value_of_zero new b begun
      ∙ (sym (value_of_zero old a graph) ∙ ap (λ i. literal_value old a (2 * i)) (sym zero))));
}

-- one node more
pub cut_more : (old part new : List Node) (k : ℕ) (n m : Node)
    → IsCutTo old k part → length part ≡ k → IsBelow k n → StandsFor k n m
    → ((a : ℕ → Bool) → literal_value old a (2 * k) ≡ node_value a (literal_value old a) n)
    → ((b : ℕ → Bool) → literal_value new b (2 * k) ≡ node_value b (literal_value part b) m)
    → Extends part new → IsCutTo old (k + 1) new
cut_more old part new k n m so_far size below stands says value extends = record {
  same = λ a b l lift less. elim (cases_eq (l / 2) k) [
    | inl e ↦ of_node old new a b l (ap (λ i. literal_value new b (2 * i)) e
        ∙ (value b
        ∙ (stands.value old a b (literal_value part b) (literal_value old a) lift below
        (λ j low. so_far.same a b j lift low) (says a)
        ∙ (sym (says a) ∙ ap (λ i. literal_value old a (2 * i)) (sym e)))))
    | inr apart ↦ extends.same l b (omega (arith, less, apart, size))
        ∙ so_far.same a b l lift (omega (arith, less, apart))
  ];
}

-- all nodes
pub cut_whole : (old new : List Node) → IsCutTo old (length old) new → length new ≡ length old
    → IsCut old new
cut_whole old new part size = record {
  same = λ a b l lift. elim (cases_lt (l / 2) (length old)) [
    | inl less ↦ part.same a b l lift less
    | inr past ↦ beyond old new a b l (omega (arith, past)) (omega (arith, past, size))
  ];
}

-- the values of the inputs, and above these of the nodes
lifted : (old : List Node) (a : ℕ → Bool) → ℕ → Bool
lifted old a v = ⊎_elim (λ (low : v < 1073741824). a v)
    (λ (high : 1073741824 ≤ v). literal_value old a (2 * (v - 1073741824)))
    (cases_lt v 1073741824)

lifts : (old : List Node) (a : ℕ → Bool) → IsLift old a (lifted old a)
unfolding lifted
lifts old a = record {
  inputs = λ v low. at_input v low (cases_lt v 1073741824);
  nodes = λ k. at_node k (cases_lt (1073741824 + k) 1073741824);
}
  where
    at_input : (v : ℕ) → v < 1073741824 → (c : (v < 1073741824) ⊎ (1073741824 ≤ v))
        → ⊎_elim (λ (low : v < 1073741824). a v)
        (λ (high : 1073741824 ≤ v). literal_value old a (2 * (v - 1073741824))) c ≡ a v
    at_input v low (inl _) = refl
    at_input v low (inr high) = absurd (omega (arith, low, high))

    at_node : (k : ℕ) → (c : (1073741824 + k < 1073741824) ⊎ (1073741824 ≤ 1073741824 + k))
        → ⊎_elim (λ (low : 1073741824 + k < 1073741824). a (1073741824 + k))
        (λ (high : 1073741824 ≤ 1073741824 + k).
        literal_value old a (2 * (1073741824 + k - 1073741824))) c ≡ literal_value old a (2 * k)
    at_node k (inl low) = absurd (omega (arith, low))
    at_node k (inr _) =
        let back : 1073741824 + k - 1073741824 ≡ k = omega arith in
        ap (λ i. literal_value old a (2 * i)) back

-- words are equal that are where nodes are inputs
pub words_uncut : (old new : List Node) (ls ms : List ℕ) → IsCut old new
    → AreEqualWords new ls ms → AreEqualWords old ls ms
words_uncut old new ls ms cut equal = record {
  same = equal.same;
  equal = λ k less. record {
    value = λ a.
        sym (cut.same a (lifted old a) (get_or ls k 0) (lifts old a))
        ∙ ((equal.equal k less).value (lifted old a)
        ∙ cut.same a (lifted old a) (get_or ms k 0) (lifts old a));
  };
}
