-- The values of nodes, one after the other.
use Rattle.std.proofs.Common.{◌≡◌, ℕ, ◌+◌, ◌*◌, ◌/◌, ◌%◌, Bool, false, not, List, [], ◌∷◌, ◌++◌}
use Rattle.std.proofs.Common.{get_or, refl, sym, ◌∙◌, ap, inl, inr, arith}
use Rattle.std.proofs.lemmas.Bool.{cases_lt, eq-eqb, ne_eqb}
use Rattle.std.proofs.lemmas.List.{length-append, get_or_append_left, get_or_at}
use Rattle.eqc_xag.specs.declared.node.Node.{Node}
use Rattle.eqc_xag.specs.Graph.{value_among, node_value, values_from, literal_value, IsBelow}
use Rattle.eqc_xag.proofs.GraphLemmas.{node_same}
use Rattle.eqc_xag.proofs.LiteralLemmas.{value_of_literal}
use Rattle.eqc_witness.specs.Cones.{AreValues}

-- a literal has one value among values that agree on its node
same_among : (values others : List Bool) (l : ℕ) → get_or values (l / 2) false
    ≡ get_or others (l / 2) false → value_among values l ≡ value_among others l
unfolding value_among
same_among values others l same = rw same refl

-- its node's value is that of the node's literal
same_node : (nodes : List Node) (a : ℕ → Bool) (known : List Bool) (l : ℕ)
    → get_or known (l / 2) false ≡ literal_value nodes a (2 * (l / 2)) → value_among known l
    ≡ literal_value nodes a l
unfolding literal_value
same_node nodes a known l is = same_among known (values_from a [] nodes) l (is
    ∙ value_of_literal (values_from a [] nodes) (l / 2))

-- the value of a literal, by that of its node
pub even_among : (known : List Bool) (l : ℕ) (value : Bool) → l % 2 ≡ 0
    → value ≡ get_or known (l / 2) false → value ≡ value_among known l
unfolding value_among
even_among known l value even is = rw (eq-eqb (l % 2) 0 even) is

pub odd_among : (known : List Bool) (l : ℕ) (value : Bool) → (l % 2 ≡ 0 → ⊥)
    → value ≡ get_or known (l / 2) false → not value ≡ value_among known l
unfolding value_among
odd_among known l value odd is = rw (ne_eqb (l % 2) 0 odd) (ap not is)

pub values_none : (nodes : List Node) (a : ℕ → Bool) → AreValues nodes a [] 0
values_none nodes a = record { size = refl; each = λ l below. absurd (omega arith) }

-- one node more
pub values_more : (nodes : List Node) (a : ℕ → Bool) (known : List Bool) (k : ℕ) (node : Node)
    (value : Bool) → AreValues nodes a known k →
    IsBelow k node → literal_value nodes a (2 * k) ≡ node_value a (literal_value nodes a) node
    → value ≡ node_value a (value_among known) node →
    AreValues nodes a (known ++ value ∷ []) (k + 1)
values_more nodes a known k node value before below is by = record {
  size = length-append known (value ∷ []) ∙ omega (arith, before.size);
  each = λ l less. elim (cases_lt (l / 2) k) [
    | inl lower ↦ same_among (known ++ value ∷ []) known l (get_or_append_left known (value ∷ [])
        false (l / 2) (omega (arith, lower, before.size))) ∙ before.each l lower
    | inr last ↦
        let here : l / 2 ≡ k = omega arith in
        same_node nodes a (known ++ value ∷ []) l
        (get_or_at known value [] false (l / 2) (omega (arith, before.size, here))
        ∙ (by ∙ (node_same a (value_among known) (literal_value nodes a) k node below before.each
        ∙ (sym is ∙ ap (λ j. literal_value nodes a (2 * j)) (sym here)))))
  ];
}
