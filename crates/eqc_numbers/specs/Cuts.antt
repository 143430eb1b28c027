-- A graph in which some nodes are inputs of their own.
use Rattle.std.specs.Prelude.{◌≡◌, ℕ, ◌+◌, ◌*◌, ◌/◌, ◌<◌, Bool, List}
use Rattle.eqc_xag.specs.declared.node.Node.{Node}
use Rattle.eqc_xag.specs.Graph.{literal_value, node_value, IsBelow}

-- b gives inputs the values that a gives them, and input 2^30 + k the value of node k
pub record IsLift (old : List Node) (a b : ℕ → Bool) : Type 0 where
  pub inputs : (v : ℕ) → v < 1073741824 → b v ≡ a v
  pub nodes : (k : ℕ) → b (1073741824 + k) ≡ literal_value old a (2 * k)

-- a literal has the same value in both graphs
pub record IsCut (old new : List Node) : Type 0 where
  pub same : (a b : ℕ → Bool) (l : ℕ) → IsLift old a b
      → literal_value new b l ≡ literal_value old a l

-- m has the value of node k, which is n, where literals of lower nodes have the same values
pub record StandsFor (k : ℕ) (n m : Node) : Type 0 where
  pub value : (old : List Node) (a b f g : ℕ → Bool) → IsLift old a b → IsBelow k n
      → ((l : ℕ) → l / 2 < k → f l ≡ g l)
      → literal_value old a (2 * k) ≡ node_value a g n → node_value b f m ≡ node_value a g n
