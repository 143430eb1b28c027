-- The names that an applier holds: each once, whatever the number of references that stand on it.
use Rattle.std.specs.Prelude.{◌≡◌, ℕ, ◌+◌, ◌-◌, ◌<◌, ◌≤◌, ◌⊎◌, List, get_or, min}
use Rattle.eqc_core.specs.Words.{times}
use Rattle.eqc_core.specs.Seating.{IsAtRest}
use Rattle.eqc_guard.specs.Known.{IsHeld, tree_of}
use Rattle.eqc_guard.specs.Standing.{Standing}
use Rattle.eqc_apply.specs.Before.{IsSeat}

-- how many references stand on a name, whose count is one more where the worker holds it, and 0
-- elsewhere
abbrev pub refs_of : List ℕ → ℕ → ℕ
refs_of counts x = get_or counts x 0 - 1

-- a worker at rest holds each name that is counted once, and each of these names once more
pub record Has (more : List ℕ) (variables : ℕ) (s : Standing) (counts : List ℕ) : Type 0 where
  pub rest : IsAtRest s.known.core
  pub cells : 0 < s.known.core.sizes.cells
  pub range : variables ≡ s.known.core.sizes.variables
  pub constants : (x : ℕ) → x < 2 → get_or counts x 0 ≡ 0
  pub once : (x : ℕ) → 2 ≤ x → times x s.known.core.held ≡ min 1 (get_or counts x 0) + times x more

-- a constant, or a name that is counted
abbrev pub IsCounted : List ℕ → ℕ → Type 0
IsCounted counts x = (x < 2) ⊎ (0 < get_or counts x 0)

-- the same references stand on the names
abbrev pub SameReferences : List ℕ → List ℕ → Type 0
SameReferences old new = (x : ℕ) → refs_of new x ≡ refs_of old x

-- the worker is who it was, and what was counted is held, with its tree
pub record Settles (counts : List ℕ) (old new : Standing) : Type 0 where
  pub forest : new.forest ≡ old.forest
  pub seat : IsSeat old.known.core new.known.core
  pub held : (x : ℕ) → IsCounted counts x → IsHeld new.known.core x
  pub tree : (x : ℕ) → IsCounted counts x → tree_of new.known x ≡ tree_of old.known x

-- the name x is held, with the tree that it had
abbrev pub IsThere : ℕ → Standing → Standing → Type 0
IsThere x old new = IsHeld new.known.core x × (tree_of new.known x ≡ tree_of old.known x)

-- the worker is who it was, and names with references have their trees
pub record Drops (counts : List ℕ) (old new : Standing) : Type 0 where
  pub forest : new.forest ≡ old.forest
  pub seat : IsSeat old.known.core new.known.core
  pub tree : (x : ℕ) → 2 ≤ get_or counts x 0 → tree_of new.known x ≡ tree_of old.known x
