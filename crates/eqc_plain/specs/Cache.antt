-- For proofs alone: when the operation cache is right. No public promise cites it.
use Rattle.std.specs.Prelude.{ℕ, List}
use Rattle.eqc_tree.specs.declared.operation.Op.{Op}
use Rattle.eqc_plain.specs.Meaning.{Meaning}
use Rattle.eqc_plain.specs.Cells.{HasEntry}
use Rattle.eqc_plain.specs.Combining.{IsResult}

-- each result in the cells is right
pub record IsCache (m : Meaning) (cells : List ℕ) : Type 0 where
  pub right : (op : Op) (f g r : ℕ) → HasEntry cells op f g r → IsResult m op f g r
