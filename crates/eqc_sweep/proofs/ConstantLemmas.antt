-- The two constant literals of a graph.
use Rattle.std.proofs.Common.{◌≡◌, ℕ, ◌+◌, ◌*◌, ◌/◌, ◌<◌, Bool, true, false, not, cond, List}
use Rattle.std.proofs.Common.{length, refl, ap, ◌∙◌, sym, subst, arith}
use Rattle.eqc_xag.specs.declared.node.Node.{Node}
use Rattle.eqc_xag.specs.Graph.{node_value, literal_value, IsWithin, node_at, IsGraph}
use Rattle.eqc_xag.proofs.GraphLemmas.{value_at_node}
use Rattle.eqc_xag.proofs.LiteralLemmas.{value_behind}
use Rattle.eqc_sweep.specs.Sweeping.{HasValue}

-- literal 0 is false
pub value_false : (nodes : List Node) → IsGraph nodes → (a : ℕ → Bool) → literal_value nodes a 0
    ≡ false
value_false nodes g a =
    value_at_node nodes 0 a g.some (g.earlier 0 g.some)
    ∙ ap (λ (n : Node). node_value a (literal_value nodes a) n) g.constant

-- literal 1 is true
pub value_true : (nodes : List Node) → IsGraph nodes → (a : ℕ → Bool) → literal_value nodes a 1
    ≡ true
value_true nodes g a = value_behind nodes a 0 refl ∙ ap not (value_false nodes g a)

-- the literal of a constant that is true
pub constant_true : (nodes : List Node) (b : Bool) → IsGraph nodes → b ≡ true
    → HasValue nodes 1 (λ _. b)
constant_true nodes b g e = record {
  within = omega (arith, g.some);
  value =
      λ a. value_true nodes g a ∙ sym e;
}

-- and of one that is false
pub constant_false : (nodes : List Node) (b : Bool) → IsGraph nodes → b ≡ false
    → HasValue nodes 0 (λ _. b)
constant_false nodes b g e = record {
  within = omega (arith, g.some);
  value =
      λ a. value_false nodes g a ∙ sym e;
}
