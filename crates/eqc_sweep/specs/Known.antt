-- What the table of structural hashing holds.
use Rattle.std.specs.Prelude.{◌≡◌, ℕ, Bool, List, length}
use Rattle.std.specs.List.{All}
use Rattle.eqc_xag.specs.declared.node.Node.{Node}
use Rattle.eqc_xag.specs.Graph.{literal_value, node_value, IsWithin, IsBelow}
use Rattle.eqc_sweep.specs.declared.table.Known.{Known}

-- literal l has the value that the node says, under each assignment
pub record IsLiteralOf (nodes : List Node) (n : Node) (l : ℕ) : Type 0 where
  pub operands : IsBelow (length nodes) n
  pub within : IsWithin nodes l
  pub value : (a : ℕ → Bool) → literal_value nodes a l ≡ node_value a (literal_value nodes a) n

-- each entry is true of the nodes
pub record AreKnown (nodes : List Node) (entries : List Known) : Type 0 where
  pub each : All (λ k. IsLiteralOf nodes k.node k.literal) entries
