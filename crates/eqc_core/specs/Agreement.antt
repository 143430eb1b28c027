-- Whether an operation on two names' functions gives the function of a third, and the cofactors of
-- a name (Bryant 1986: Shannon's expansion).
use Rattle.std.specs.Prelude.{◌≡◌, ℕ, List, get_or, Bool, eqb, if◌then◌else◌}
use Rattle.eqc_tree.specs.Tree.{Tree, value}
use Rattle.eqc_tree.specs.Operation.{operate}
use Rattle.eqc_tree.specs.declared.operation.Op.{Op}
use Rattle.eqc_core.specs.Words.{low_of, high_of}
use Rattle.eqc_core.specs.Trees.{IsTree, variable_at}

-- whatever trees the names have
abbrev pub Agrees : List ℕ → Op → ℕ → ℕ → ℕ → Type 0
Agrees nodes op f g r =
    (s t u : Tree) → IsTree nodes s f → IsTree nodes t g → IsTree nodes u r → (a : ℕ → Bool)
    → operate op (value s a) (value t a) ≡ value u a

-- the cofactor of a name: the name where the variable v is b
abbrev pub cofactor : List ℕ → ℕ → Bool → ℕ → ℕ
cofactor nodes v b x = if eqb (variable_at nodes x) v then (if b then high_of (get_or nodes x 0)
    else low_of (get_or nodes x 0)) else x
