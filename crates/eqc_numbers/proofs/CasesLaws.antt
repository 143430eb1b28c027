-- What is left of a graph where a variable has a value, and what both values of it come to.
use Rattle.std.proofs.Common.{◌≡◌, ℕ, ◌+◌, ◌*◌, ◌/◌, ◌%◌, ◌<◌, ◌≤◌, Bool, true, false, not, ◌&&◌}
use Rattle.std.proofs.Common.{List, [], ◌∷◌, ◌++◌, length, get_or, refl, sym, ◌∙◌, ap, subst}
use Rattle.std.proofs.Common.{◌⊎◌, ⊎_elim, inl, inr, arith, eqb-true, eqb}
use Rattle.std.proofs.lemmas.Bool.{cases_eq, cases_lt, eqb-false}
use Rattle.std.proofs.lemmas.List.{length-append, get_or_past}
use Rattle.eqc_xag.specs.declared.node.Node.{Node}
use Rattle.eqc_xag.specs.declared.node.Node.TheVariants.{Input}
use Rattle.eqc_xag.specs.Graph.{literal_value, node_value, value_among, values_from, IsBelow}
use Rattle.eqc_xag.specs.Graph.{IsGraph, Extends}
use Rattle.eqc_xag.proofs.GraphLemmas.{node_same, value_of_zero, value_of_one}
use Rattle.eqc_sweep.proofs.GateLemmas.{plain_value, complement_value}
use Rattle.eqc_sweep.specs.Finding.{AreEqual}
use Rattle.eqc_sums.specs.Adding.{AreEqualWords}
use Rattle.eqc_numbers.specs.Cases.{IsCofactor}

-- the literals of the first nodes have the same values in both graphs
pub record IsPartOf (old : List Node) (v : ℕ) (b : Bool) (k : ℕ) (new : List Node) : Type 0 where
  pub same : (a : ℕ → Bool) (l : ℕ) → a v ≡ b → l / 2 < k
      → literal_value new a l ≡ literal_value old a l

values_length : (a : ℕ → Bool) (values : List Bool) (nodes : List Node)
    → length (values_from a values nodes) ≡ length values + length nodes
unfolding values_from
values_length a values [] = omega arith
values_length a values (n ∷ nodes) =
    let one : List Bool = node_value a (value_among values) n ∷ [] in
    omega (arith, values_length a (values ++ one) nodes, length-append values one)

-- a literal behind all nodes has the same value in each graph
pub beyond : (old new : List Node) (a b : ℕ → Bool) (l : ℕ) → length old ≤ l / 2
    → length new ≤ l / 2 → literal_value new b l ≡ literal_value old a l
unfolding literal_value value_among
beyond old new a b l first second =
    let one = get_or_past (values_from a [] old) (l / 2) false
    (omega (arith, first, values_length a [] old)) in
    let other = get_or_past (values_from b [] new) (l / 2) false
    (omega (arith, second, values_length b [] new)) in
    rw (one, other) refl

-- a literal has the same value in two graphs if its node has
pub of_node : (old new : List Node) (a b : ℕ → Bool) (l : ℕ)
    → literal_value new b (2 * (l / 2)) ≡ literal_value old a (2 * (l / 2))
    → literal_value new b l ≡ literal_value old a l
of_node old new a b l same = go (eqb (l % 2) 1) refl
  where
    go : (odd : Bool) → odd ≡ eqb (l % 2) 1 → literal_value new b l ≡ literal_value old a l
    go true odd =
        let is = eqb-true (l % 2) 1 (sym odd) in
        complement_value new b l (l / 2) refl is
        ∙ (ap not same ∙ sym (complement_value old a l (l / 2) refl is))
    go false even =
        let is = eqb-false (l % 2) 1 (sym even) in
        plain_value new b l (l / 2) refl is
        ∙ (same ∙ sym (plain_value old a l (l / 2) refl is))

-- the constant is in both
pub part_begins : (old new : List Node) (v : ℕ) (b : Bool) → IsGraph old → IsGraph new
    → IsPartOf old v b 1 new
part_begins old new v b graph begun = record {
  same = λ a l is less.
      let zero : l / 2 ≡ 0 = omega (arith, less) in
      of_node old new a a l (ap (λ i. literal_value new a (2 * i)) zero
      ∙ (value_of_zero new a begun
      ∙ (sym (value_of_zero old a graph) ∙ ap (λ i. literal_value old a (2 * i)) (sym zero))));
}

-- the constant of a value is the input that has it
pub true_instead : (v other : ℕ) (b : Bool) (n : Node) → n ≡ Input other → other ≡ v → b ≡ true
    → (nodes : List Node) → IsGraph nodes → (a : ℕ → Bool) → a v ≡ b
    → (literal_value nodes a 1 && literal_value nodes a 1)
    ≡ node_value a (literal_value nodes a) n
true_instead v other b n is same one nodes graph a e =
    ap (λ t. t && t) (value_of_one nodes a graph)
    ∙ sym (ap (node_value a (literal_value nodes a)) is ∙ (ap a same ∙ (e ∙ one)))

pub false_instead : (v other : ℕ) (b : Bool) (n : Node) → n ≡ Input other → other ≡ v → b ≡ false
    → (nodes : List Node) → IsGraph nodes → (a : ℕ → Bool) → a v ≡ b
    → (literal_value nodes a 0 && literal_value nodes a 0)
    ≡ node_value a (literal_value nodes a) n
false_instead v other b n is same zero nodes graph a e =
    ap (λ t. t && t) (value_of_zero nodes a graph)
    ∙ sym (ap (node_value a (literal_value nodes a)) is ∙ (ap a same ∙ (e ∙ zero)))

-- one node more
pub part_more : (old part new : List Node) (v : ℕ) (b : Bool) (k : ℕ) (n m : Node)
    → IsPartOf old v b k part → length part ≡ k → IsBelow k n
    → ((a : ℕ → Bool) → literal_value old a (2 * k) ≡ node_value a (literal_value old a) n)
    → ((a : ℕ → Bool) → a v ≡ b
    → node_value a (literal_value part a) m ≡ node_value a (literal_value part a) n)
    → ((a : ℕ → Bool) → literal_value new a (2 * k) ≡ node_value a (literal_value part a) m)
    → Extends part new → IsPartOf old v b (k + 1) new
part_more old part new v b k n m so_far size below says makes value extends = record {
  same = λ a l is less. elim (cases_eq (l / 2) k) [
    | inl e ↦ of_node old new a a l (ap (λ i. literal_value new a (2 * i)) e
        ∙ (value a
        ∙ (makes a is
        ∙ (node_same a (literal_value part a) (literal_value old a) k n below
        (λ j low. so_far.same a j is low)
        ∙ (sym (says a) ∙ ap (λ i. literal_value old a (2 * i)) (sym e))))))
    | inr apart ↦ extends.same l a (omega (arith, less, apart, size))
        ∙ so_far.same a l is (omega (arith, less, apart))
  ];
}

-- all nodes
pub part_whole : (old new : List Node) (v : ℕ) (b : Bool) → IsPartOf old v b (length old) new
    → length new ≡ length old → IsCofactor old v b new
part_whole old new v b part size = record {
  same = λ a l is. elim (cases_lt (l / 2) (length old)) [
    | inl less ↦ part.same a l is less
    | inr past ↦ beyond old new a a l (omega (arith, past)) (omega (arith, past, size))
  ];
}

-- words are equal that are in both cases
pub both_cases : (old one other : List Node) (v : ℕ) (b : Bool) (ls ms : List ℕ)
    → IsCofactor old v b one → IsCofactor old v (not b) other → AreEqualWords one ls ms
    → AreEqualWords other ls ms → AreEqualWords old ls ms
both_cases old one other v b ls ms first second p q = record {
  same = p.same;
  equal = λ k less. record {
    value = λ a. ⊎_elim
        (λ (is : a v ≡ b). sym (first.same a (get_or ls k 0) is)
        ∙ ((p.equal k less).value a ∙ first.same a (get_or ms k 0) is))
        (λ (is : a v ≡ not b). sym (second.same a (get_or ls k 0) is)
        ∙ ((q.equal k less).value a ∙ second.same a (get_or ms k 0) is))
        (either (a v) b);
  };
}
  where
    either : (x y : Bool) → (x ≡ y) ⊎ (x ≡ not y)
    either true true = inl refl
    either true false = inr refl
    either false true = inr refl
    either false false = inl refl
