-- Assumptions among which one is false by itself or by another one.
use Rattle.std.proofs.Common.{◌≡◌, ℕ, ◌<◌, ◌∙◌, ap, Bool, true, false, not, List, length, get_or}
use Rattle.std.proofs.Common.{refl}
use Rattle.std.proofs.lemmas.List.Folds.{list_any_at}
use Rattle.std.specs.List.{list_any}
use Rattle.eqc_xag.specs.declared.node.Node.{Node}
use Rattle.eqc_xag.specs.Graph.{IsGraph, literal_value, node_at, node_value}
use Rattle.eqc_rup.specs.Clauses.{IsRefuted}
use Rattle.eqc_cdcl.specs.Contradiction.{IsAmong}

-- what stands at a place is among them
pub among_at : (l : ℕ) (literals : List ℕ) (k d : ℕ) → k < length literals → get_or literals k d ≡ l
    → IsAmong l literals
among_at l literals k d inside is = record {
  found = λ test passes. list_any_at test literals k d inside (ap test is ∙ passes);
}

-- a literal that is false under every assignment refutes
pub false_refutes : (nodes : List Node) (assumptions : List ℕ) (l : ℕ) → IsAmong l assumptions
    → ((a : ℕ → Bool) → literal_value nodes a l ≡ false) → IsRefuted nodes assumptions
false_refutes nodes assumptions l among never = record {
  one_is_false = λ a. among.found (λ k. not (literal_value nodes a k)) (ap not (never a));
}

-- the literal of the first node of a graph, which is the constant, refutes
pub constant_refutes : (nodes : List Node) (assumptions : List ℕ) (n : Node) → IsGraph nodes
    → n ≡ node_at nodes 0 →
    ((a : ℕ → Bool) → literal_value nodes a 0 ≡ node_value a (literal_value nodes a) n)
    → IsAmong 0 assumptions → IsRefuted nodes assumptions
constant_refutes nodes assumptions n graph is value among =
    false_refutes nodes assumptions 0 among (λ a. value a
    ∙ ap (node_value a (literal_value nodes a)) (is ∙ graph.constant))

-- of two complements one is false
one_is_false : (nodes : List Node) (assumptions : List ℕ) (l m : ℕ) (a : ℕ → Bool) (v : Bool)
    → IsAmong l assumptions → IsAmong m assumptions →
    literal_value nodes a m ≡ not (literal_value nodes a l) → literal_value nodes a l ≡ v →
    list_any (λ k. not (literal_value nodes a k)) assumptions ≡ true
one_is_false nodes assumptions l m a false here there opposite is =
    here.found (λ k. not (literal_value nodes a k)) (ap not is)
one_is_false nodes assumptions l m a true here there opposite is =
    there.found (λ k. not (literal_value nodes a k)) (ap not (opposite ∙ ap not is))

pub both_refute : (nodes : List Node) (assumptions : List ℕ) (l m : ℕ) → IsAmong l assumptions
    → IsAmong m assumptions →
    ((a : ℕ → Bool) → literal_value nodes a m ≡ not (literal_value nodes a l))
    → IsRefuted nodes assumptions
both_refute nodes assumptions l m here there opposite = record {
  one_is_false = λ a. one_is_false nodes assumptions l m a (literal_value nodes a l) here there
      (opposite a) refl;
}
