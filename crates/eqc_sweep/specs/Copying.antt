-- The literals that nodes of a graph have in another one.
use Rattle.std.specs.Prelude.{◌≡◌, ℕ, ◌*◌, Bool, List, Option, Some, None, slice_index_or}
use Rattle.eqc_xag.specs.declared.node.Node.{Node}
use Rattle.eqc_xag.specs.Graph.{literal_value, node_value}
use Rattle.eqc_sweep.specs.Sweeping.{HasValue}

-- the literal of a node in a table
abbrev pub copy_of : List (Option ℕ) → ℕ → Option ℕ
copy_of table k = slice_index_or table k None

-- each literal of a table is one of the new graph, and has the value of its node of the old one
pub record AreCopies (old new : List Node) (table : List (Option ℕ)) : Type 0 where
  pub each : (k c : ℕ) → copy_of table k ≡ Some c
      → HasValue new c (λ a. literal_value old a (2 * k))

-- a literal of the new graph has the value of one of the old graph
abbrev pub IsCopyOf : (old new : List Node) → (l c : ℕ) → Type 0
IsCopyOf old new l c = HasValue new c (λ a. literal_value old a l)

-- a literal of the new graph has the value that a node has in the old graph
abbrev pub IsCopyOfNode : (old new : List Node) → Node → ℕ → Type 0
IsCopyOfNode old new n c = HasValue new c (λ a. node_value a (literal_value old a) n)
