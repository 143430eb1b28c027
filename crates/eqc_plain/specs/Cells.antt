-- What the operation cache has: in a cell, the word of an operation, its operands and its result.
use Rattle.std.specs.Prelude.{◌≡◌, ℕ, ◌<◌, ◌^◌, ◌⊎◌, List, length, slice_index}
use Rattle.eqc_tree.specs.Operation.{tag_of}
use Rattle.eqc_tree.specs.Word.{cell_word}
use Rattle.eqc_tree.specs.declared.operation.Op.{Op}
use Rattle.eqc_plain.specs.Terminal.{AreOperands}

-- a cell has r for the operation on f and g
pub record HasEntry (cells : List ℕ) (op : Op) (f g r : ℕ) : Type 0 where
  pub place : ℕ
  pub there : place < length cells
  pub first : f < 2 ^ 20
  pub second : g < 2 ^ 20
  pub fits : r < 2 ^ 20
  pub word : slice_index cells place ≡ cell_word (tag_of op) f g r

-- a cell has r for the operation on f and g, or on g and f where it commutes
pub record IsKept (cells : List ℕ) (op : Op) (f g r : ℕ) : Type 0 where
  pub p : ℕ
  pub q : ℕ
  pub operands : AreOperands op f g p q
  pub entry : HasEntry cells op p q r

-- x for the operation o on p and q is r for the operation on f and g
pub record IsSame (op : Op) (f g r : ℕ) (o : Op) (p q x : ℕ) : Type 0 where
  pub operation : op ≡ o
  pub operands : AreOperands op f g p q
  pub found : r ≡ x

-- no entry came
abbrev pub HasNoMore : List ℕ → List ℕ → Type 0
HasNoMore old new = (o : Op) (p q x : ℕ) → HasEntry new o p q x → HasEntry old o p q x

-- no entry came but r for the operation on f and g
abbrev pub MayHave : Op → (f g r : ℕ) → List ℕ → List ℕ → Type 0
MayHave op f g r old new = (o : Op) (p q x : ℕ) → HasEntry new o p q x → HasEntry old o p q x
    ⊎ IsSame op f g r o p q x
