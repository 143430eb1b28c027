-- Copies of literals in another graph.
use Rattle.std.specs.Prelude.{ℕ, ◌<◌, List, length, slice_index}
use Rattle.eqc_xag.specs.declared.node.Node.{Node}
use Rattle.eqc_sweep.specs.Copying.{IsCopyOf}

-- literals of the new graph have the values of the first ones of these of the old one
pub record AreCopiesOf (old new : List Node) (ls cs : List ℕ) : Type 0 where
  pub each : (k : ℕ) → k < length cs → IsCopyOf old new (slice_index ls k) (slice_index cs k)
