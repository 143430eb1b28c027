-- For proofs alone: the names of results that a call comes by. No public promise cites it.
use Rattle.std.specs.Prelude.{◌≡◌, ℕ, ◌<◌, ◌⊎◌, Bool}
use Rattle.eqc_tree.specs.Tree.{value}
use Rattle.eqc_tree.specs.Operation.{operate}
use Rattle.eqc_tree.specs.declared.operation.Op.{Op}
use Rattle.eqc_guard.specs.Known.{IsHeld, tree_of}
use Rattle.eqc_apply.specs.declared.held.Held.{Held}
use Rattle.eqc_apply.specs.Names.{refs_of}

-- a constant, or a name that references stand on
abbrev pub IsReferenced : Held → ℕ → Type 0
IsReferenced n x = (x < 2) ⊎ (0 < refs_of n.counts.items x)

-- x is held, and has the operation's function on those that f and g had
abbrev pub IsAnswer : Op → Held → (f g : ℕ) → Held → ℕ → Type 0
IsAnswer op old f g new x =
    IsHeld new.worker.known.core x × ((a : ℕ → Bool) → value (tree_of new.worker.known x) a
    ≡ operate op (value (tree_of old.worker.known f) a) (value (tree_of old.worker.known g) a))

-- x is held, and has the function of a variable
abbrev pub IsVariable : ℕ → Held → ℕ → Type 0
IsVariable var new x = IsHeld new.worker.known.core x
    × ((a : ℕ → Bool) → value (tree_of new.worker.known x) a ≡ a var)
