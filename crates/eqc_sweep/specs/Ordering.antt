-- The one form of a gate under which it is looked up.
use Rattle.std.specs.Prelude.{◌≡◌, ℕ, ◌/◌, ◌%◌, ◌==◌, Bool, List}
use Rattle.eqc_xag.specs.declared.node.Node.{Node}
use Rattle.eqc_xag.specs.Graph.{literal_value, node_value, differ, IsBelow}

-- m is made of the same nodes, and has the value of n, or the opposite where sign says so
pub record IsFormOf (n m : Node) (sign : Bool) : Type 0 where
  pub below : (k : ℕ) → IsBelow k n → IsBelow k m
  pub value : (nodes : List Node) (a : ℕ → Bool) → node_value a (literal_value nodes a) n
      ≡ differ sign (node_value a (literal_value nodes a) m)

-- p is x or its complement
pub record IsPlain (x p : ℕ) : Type 0 where
  pub node : p / 2 ≡ x / 2
  pub value : (nodes : List Node) (a : ℕ → Bool) → literal_value nodes a p
      ≡ differ (x % 2 == 1) (literal_value nodes a x)
