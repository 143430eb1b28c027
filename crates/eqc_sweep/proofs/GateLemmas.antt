-- What a literal is of its gate's operands, and how literals are related.
use Rattle.std.proofs.Common.{◌≡◌, ℕ, ◌+◌, ◌*◌, ◌/◌, ◌%◌, ◌<◌, Bool, true, false, not, ◌&&◌, List}
use Rattle.std.proofs.Common.{length, refl, sym, ap, ◌∙◌, arith, eqb-true, eqb}
use Rattle.std.proofs.lemmas.Bool.{eqb-false}
use Rattle.eqc_xag.specs.declared.node.Node.{Node}
use Rattle.eqc_xag.specs.declared.node.Node.TheVariants.{And, Xor}
use Rattle.eqc_xag.specs.Graph.{literal_value, differ, IsBelow}
use Rattle.eqc_xag.proofs.LiteralLemmas.{value_behind}
use Rattle.eqc_sweep.specs.Gates.{not_both, Makes, AreOpposite}
use Rattle.eqc_sweep.proofs.BoolLemmas.{same_of_two}

-- a literal of node k that is no complement is the node's
pub plain_value : (nodes : List Node) (a : ℕ → Bool) (x k : ℕ) → k ≡ x / 2 → (x % 2 ≡ 1 → ⊥)
    → literal_value nodes a x ≡ literal_value nodes a (2 * k)
plain_value nodes a x k e plain = let same : x ≡ 2 * k = omega (arith, plain, e) in
    ap (λ (l : ℕ). literal_value nodes a l) same

-- and a complement is the opposite of it
pub complement_value : (nodes : List Node) (a : ℕ → Bool) (x k : ℕ) → k ≡ x / 2 → x % 2 ≡ 1
    → literal_value nodes a x ≡ not (literal_value nodes a (2 * k))
complement_value nodes a x k e odd =
    let same : x ≡ 2 * k + 1 = omega (arith, odd, e) in
    let even : (2 * k) % 2 ≡ 0 = omega arith in
    ap (λ (l : ℕ). literal_value nodes a l) same ∙ value_behind nodes a (2 * k) even

-- the complement of a conjunction
pub not_both_gate : (nodes : List Node) (x k p q : ℕ) → k ≡ x / 2 → x / 2 < length nodes → x % 2 ≡ 1
    → IsBelow k (And p q)
    → ((a : ℕ → Bool) → literal_value nodes a (2 * k) ≡ (literal_value nodes a p
    && literal_value nodes a q))
    → Makes not_both nodes x p q
not_both_gate nodes x k p q e within odd below says = record {
  first = omega (arith, within, below.0, e);
  second = omega (arith, within, below.1, e);
  value = λ a. complement_value nodes a x k e odd ∙ ap not (says a);
}

not_differ : (x y : Bool) → not (differ x y) ≡ differ (not x) y
not_differ = same_of_two (λ x y. not (differ x y)) (λ x y. differ (not x) y) refl refl refl refl

-- the complement of a difference is the difference with a complement
pub differ_gate : (nodes : List Node) (x k p q n : ℕ) (sign : Bool) → k ≡ x / 2
    → x / 2 < length nodes → sign ≡ eqb (x % 2) 1
    → IsBelow k (Xor p q)
    → ((a : ℕ → Bool) → literal_value nodes a (2 * k) ≡ differ (literal_value nodes a p)
    (literal_value nodes a q))
    → n / 2 ≡ p / 2 → ((ns : List Node) (a : ℕ → Bool) → literal_value ns a n
    ≡ differ sign (literal_value ns a p))
    → Makes differ nodes x n q
differ_gate nodes x k p q n true e within odd below says node value = record {
  first = omega (arith, within, below.0, node, e);
  second = omega (arith, within, below.1, e);
  value = λ a.
      complement_value nodes a x k e (eqb-true (x % 2) 1 (sym odd))
      ∙ (ap not (says a)
      ∙ (not_differ (literal_value nodes a p) (literal_value nodes a q)
      ∙ ap (λ (b : Bool). differ b (literal_value nodes a q)) (sym (value nodes a))));
}
differ_gate nodes x k p q n false e within even below says node value = record {
  first = omega (arith, within, below.0, node, e);
  second = omega (arith, within, below.1, e);
  value = λ a.
      plain_value nodes a x k e (eqb-false (x % 2) 1 (sym even))
      ∙ (says a ∙ ap (λ (b : Bool). differ b (literal_value nodes a q)) (sym (value nodes a)));
}

-- what the complement of a literal is to it
pub opposite_of : (x y : ℕ) → y / 2 ≡ x / 2 → ((nodes : List Node) (a : ℕ → Bool)
    → literal_value nodes a y ≡ not (literal_value nodes a x)) → AreOpposite x y
opposite_of x y node value = record { node = node; value = value }
