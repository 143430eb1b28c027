-- The complement of a literal.
use Rattle.std.proofs.Common.{◌≡◌, ℕ, ◌+◌, ◌-◌, ◌*◌, ◌/◌, ◌%◌, Bool, true, false, not, List, []}
use Rattle.std.proofs.Common.{get_or, refl, sym, ◌∙◌, ap, arith}
use Rattle.std.proofs.lemmas.Bool.{eq-eqb, ne_eqb}
use Rattle.eqc_xag.specs.declared.node.Node.{Node}
use Rattle.eqc_xag.specs.Graph.{value_among, values_from, literal_value}

-- of an even literal, and of the odd one behind it
value_even : (values : List Bool) (l n : ℕ) → l ≡ 2 * n → value_among values l
    ≡ get_or values n false
unfolding value_among
value_even values l n is =
    let even : l % 2 ≡ 0 = omega (arith, is) in
    let half : l / 2 ≡ n = omega (arith, is) in
    rw (eq-eqb (l % 2) 0 even, half) refl

value_odd : (values : List Bool) (l n : ℕ) → l ≡ 2 * n + 1 → value_among values l
    ≡ not (get_or values n false)
unfolding value_among
value_odd values l n is =
    let odd : l % 2 ≡ 0 → ⊥ = omega (arith, is) in
    let half : l / 2 ≡ n = omega (arith, is) in
    rw (ne_eqb (l % 2) 0 odd, half) refl

not-not : (b : Bool) → b ≡ not (not b)
not-not true = refl
not-not false = refl

pub value_behind : (nodes : List Node) (a : ℕ → Bool) (l : ℕ) → l % 2 ≡ 0
    → literal_value nodes a (l + 1) ≡ not (literal_value nodes a l)
unfolding literal_value
value_behind nodes a l even =
    let values = values_from a [] nodes in
    value_odd values (l + 1) (l / 2) (omega (arith, even))
    ∙ ap not (sym (value_even values l (l / 2) (omega (arith, even))))

pub value_before : (nodes : List Node) (a : ℕ → Bool) (l : ℕ) → (l % 2 ≡ 0 → ⊥)
    → literal_value nodes a (l - 1) ≡ not (literal_value nodes a l)
unfolding literal_value
value_before nodes a l odd =
    let values = values_from a [] nodes in
    value_even values (l - 1) (l / 2) (omega (arith, odd))
    ∙ (not-not (get_or values (l / 2) false)
    ∙ ap not (sym (value_odd values l (l / 2) (omega (arith, odd)))))

-- the literal of a node itself
pub value_of_literal : (values : List Bool) (n : ℕ) → value_among values (2 * n)
    ≡ get_or values n false
value_of_literal values n = value_even values (2 * n) n refl
