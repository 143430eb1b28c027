-- Copies of literals, over positions.
use Rattle.std.proofs.Common.{◌≡◌, ℕ, ◌+◌, ◌*◌, ◌/◌, ◌%◌, ◌<◌, ◌≤◌, ◌==◌, Bool, false, nat_eq, ◌&&◌}
use Rattle.std.proofs.Common.{List, [], ◌∷◌, ◌++◌, length, get_or, refl, sym, ◌∙◌, ap, ap₂, subst}
use Rattle.std.proofs.Common.{inl, inr, arith}
use Rattle.std.specs.List.{position_or_len}
use Rattle.std.proofs.lemmas.Bool.{cases_eq, cases_lt, eq-eqb, ne_eqb}
use Rattle.std.proofs.lemmas.List.{length-append, get_or_append_left, get_or_at, get_or_past}
use Rattle.eqc_tree.specs.Assigned.{assigned}
use Rattle.eqc_xag.specs.declared.node.Node.{Node}
use Rattle.eqc_xag.specs.declared.node.Node.TheVariants.{And, Xor}
use Rattle.eqc_xag.specs.Graph.{literal_value, node_value, differ, Extends, IsGraph, IsWithin}
use Rattle.eqc_xag.proofs.GraphLemmas.{value_of_zero}
use Rattle.eqc_xag.proofs.LiteralLemmas.{value_behind}
use Rattle.eqc_witness.specs.Cones.{AreCopies, HasInputs, IsCopy, values_at}

-- ---- graphs that go on

pub inputs_extended : (old new : List Node) (n : ℕ) → Extends old new → HasInputs old n
    → HasInputs new n
inputs_extended old new n extends inputs = record {
  within = omega (arith, inputs.within, extends.longer);
  value = λ i a inside. extends.same (2 * i + 2) a (omega (arith, inputs.within))
      ∙ inputs.value i a inside;
}

-- the input of one position more
pub inputs_more : (old new : List Node) (n : ℕ) → HasInputs old n → length old ≡ n + 1
    → length new ≡ n + 2 → Extends old new →
    ((a : ℕ → Bool) → literal_value new a (2 * length old) ≡ a n) → HasInputs new (n + 1)
inputs_more old new n inputs count longer extends is = record {
  within = omega arith;
  value = λ i a inside. elim (cases_eq i n) [
    | inl last ↦ ap (literal_value new a) (omega (arith, last, count)) ∙ (is a ∙ ap a (sym last))
    | inr front ↦ (inputs_extended old new n extends inputs).value i a (omega arith)
  ];
}

pub copy_extended : (graph old new : List Node) (variables : List ℕ) (x y : ℕ) → Extends old new
    → IsCopy graph old variables x y → IsCopy graph new variables x y
copy_extended graph old new variables x y extends copy = record {
  within = omega (arith, copy.within, extends.longer);
  value = λ values long. extends.same y (values_at values) copy.within ∙ copy.value values long;
}

-- ---- literals

-- a literal is its node's, or the complement of it
by_node : (nodes : List Node) (a : ℕ → Bool) (x : ℕ) → literal_value nodes a x
    ≡ differ (x % 2 == 1) (literal_value nodes a (2 * (x / 2)))
by_node nodes a x = elim (cases_eq (x % 2) 1) [
  | inl odd ↦
      let is : x ≡ 2 * (x / 2) + 1 = omega (arith, odd) in
      ap (literal_value nodes a) is ∙ (value_behind nodes a (2 * (x / 2)) (omega arith)
      ∙ rw (eq-eqb (x % 2) 1 odd) refl)
  | inr even ↦
      let is : x ≡ 2 * (x / 2) = omega (arith, even) in
      rw (ne_eqb (x % 2) 1 even) (ap (literal_value nodes a) is)
]

-- the copy of a literal, from that of its node
pub copy_literal : (old new : List Node) (variables : List ℕ) (x y z : ℕ)
    → IsCopy old new variables (2 * (x / 2)) z → y / 2 ≡ z / 2 →
    ((nodes : List Node) (a : ℕ → Bool) → literal_value nodes a y
    ≡ differ (x % 2 == 1) (literal_value nodes a z)) → IsCopy old new variables x y
copy_literal old new variables x y z copy node is = record {
  within = omega (arith, copy.within, node);
  value = λ values long.
      is new (values_at values)
      ∙ (ap (differ (x % 2 == 1)) (copy.value values long)
      ∙ sym (by_node old (assigned variables values) x));
}

-- ---- nodes

pub copy_constant : (old new : List Node) (variables : List ℕ) (k : ℕ) → IsGraph new
    → ((a : ℕ → Bool) → literal_value old a k ≡ false) → IsCopy old new variables k 0
copy_constant old new variables k graph is = record {
  within = graph.some;
  value = λ values long. value_of_zero new (values_at values) graph
      ∙ sym (is (assigned variables values));
}

-- a variable that has a position
pub copy_input : (old new : List Node) (variables : List ℕ) (k v i : ℕ)
    → HasInputs new (length variables) →
    i ≡ position_or_len (λ w. nat_eq w v) variables → i < length variables
    → ((a : ℕ → Bool) → literal_value old a k ≡ a v) →
    IsCopy old new variables k (2 * i + 2)
unfolding assigned
copy_input old new variables k v i inputs at inside is = record {
  within = omega (arith, inputs.within);
  value = λ values long. inputs.value i (values_at values) inside ∙ (ap (values_at values) at
      ∙ sym (is (assigned variables values)));
}

-- and one that has none
pub copy_unlisted : (old new : List Node) (variables : List ℕ) (k v i : ℕ) → IsGraph new
    → i ≡ position_or_len (λ w. nat_eq w v) variables →
    length variables ≤ i → ((a : ℕ → Bool) → literal_value old a k ≡ a v)
    → IsCopy old new variables k 0
unfolding assigned
copy_unlisted old new variables k v i graph at past is = record {
  within = graph.some;
  value = λ values long.
      value_of_zero new (values_at values) graph
      ∙ sym (is (assigned variables values) ∙ (ap (values_at values) (sym at)
      ∙ get_or_past values i false (omega arith)));
}

-- a gate of two literals that are copied
pub copy_gate : (f : Bool → Bool → Bool) (graph old new : List Node) (variables : List ℕ)
    (k l x y p q : ℕ) → IsCopy graph old variables x p → IsCopy graph old variables y q
    → IsWithin new l
    → ((a : ℕ → Bool) → literal_value new a l ≡ f (literal_value old a p) (literal_value old a q)) →
    ((a : ℕ → Bool) → literal_value graph a k ≡ f (literal_value graph a x) (literal_value graph a
    y)) → IsCopy graph new variables k l
copy_gate f graph old new variables k l x y p q first second within is by = record {
  within = within;
  value = λ values long. is (values_at values)
      ∙ (ap₂ f (first.value values long) (second.value values long)
      ∙ sym (by (assigned variables values)));
}

-- as a gate is pushed
pub copy_and : (graph old new : List Node) (variables : List ℕ) (k l x y p q : ℕ)
    → IsCopy graph old variables x p → IsCopy graph old variables y q → new ≡ old ++ And p q ∷ []
    → l ≡ 2 * length old
    → ((a : ℕ → Bool) → literal_value new a l ≡ node_value a (literal_value old a) (And p q)) →
    ((a : ℕ → Bool) → literal_value graph a k ≡ node_value a (literal_value graph a) (And x y))
    → IsCopy graph new variables k l
copy_and graph old new variables k l x y p q first second pushed is value by =
    copy_gate ◌&&◌ graph old new variables k l x y p q first second
    (omega (arith, is, ap length pushed, length-append old (And p q ∷ []))) value by

pub copy_xor : (graph old new : List Node) (variables : List ℕ) (k l x y p q : ℕ)
    → IsCopy graph old variables x p → IsCopy graph old variables y q → new ≡ old ++ Xor p q ∷ []
    → l ≡ 2 * length old
    → ((a : ℕ → Bool) → literal_value new a l ≡ node_value a (literal_value old a) (Xor p q)) →
    ((a : ℕ → Bool) → literal_value graph a k ≡ node_value a (literal_value graph a) (Xor x y))
    → IsCopy graph new variables k l
copy_xor graph old new variables k l x y p q first second pushed is value by =
    copy_gate differ graph old new variables k l x y p q first second
    (omega (arith, is, ap length pushed, length-append old (Xor p q ∷ []))) value by

-- ---- the table

-- the copy of a literal, from that of its node in the row
pub copy_in : (old new : List Node) (variables row table : List ℕ) (x y place : ℕ)
    → AreCopies old new variables row table → place < length table → get_or row place 0 ≡ x / 2
    → y / 2 ≡ get_or table place 0 / 2 →
    ((nodes : List Node) (a : ℕ → Bool) → literal_value nodes a y
    ≡ differ (x % 2 == 1) (literal_value nodes a (get_or table place 0))) →
    IsCopy old new variables x y
copy_in old new variables row table x y place copies inside here node is =
    copy_literal old new variables x y (get_or table place 0)
    (subst (λ k. IsCopy old new variables (2 * k) (get_or table place 0)) here
    (copies.each place inside)) node is

pub copies_extended : (graph old new : List Node) (variables row table : List ℕ) → Extends old new
    → AreCopies graph old variables row table → AreCopies graph new variables row table
copies_extended graph old new variables row table extends copies = record {
  each = λ k inside. copy_extended graph old new variables (2 * get_or row k 0) (get_or table k 0)
      extends (copies.each k inside);
}

pub copies_none : (graph copy : List Node) (variables row : List ℕ)
    → AreCopies graph copy variables row []
copies_none graph copy variables row = record { each = λ k inside. absurd (omega arith) }

-- the node of one place more
pub copies_more : (graph copy : List Node) (variables row table : List ℕ) (k node y : ℕ)
    → length table ≡ k → get_or row k 0 ≡ node →
    AreCopies graph copy variables row table → IsCopy graph copy variables (2 * node) y
    → AreCopies graph copy variables row (table ++ y ∷ [])
copies_more graph copy variables row table k node y size here copies last = record {
  each = λ j inside. elim (cases_lt j k) [
    | inl lower ↦
        subst (λ z. IsCopy graph copy variables (2 * get_or row j 0) z)
        (sym (get_or_append_left table (y ∷ []) 0 j (omega (arith, lower, size))))
        (copies.each j (omega (arith, lower, size)))
    | inr above ↦
        let same : k ≡ j = omega (arith, above, inside, size, length-append table (y ∷ [])) in
        subst (λ z. IsCopy graph copy variables (2 * get_or row j 0) z)
        (sym (get_or_at table y [] 0 j (omega (arith, size, same))))
        (subst (λ n. IsCopy graph copy variables (2 * n) y) (sym here
        ∙ ap (λ i. get_or row i 0) same) last)
  ];
}
