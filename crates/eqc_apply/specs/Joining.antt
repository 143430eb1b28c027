-- One applier takes another in: it holds what both held.
use Rattle.std.specs.Prelude.{◌≡◌, ℕ, ◌+◌, ◌<◌, ◌≤◌, ◌⊎◌, List, get_or, length, count_by, min}
use Rattle.eqc_tree.specs.Holding.{Entry, Holding, entry_eq}
use Rattle.eqc_core.specs.Words.{times}
use Rattle.eqc_core.specs.Seating.{IsAtRest, out_after}
use Rattle.eqc_guard.specs.Known.{tree_of}
use Rattle.eqc_guard.specs.Standing.{Standing}
use Rattle.eqc_apply.specs.Names.{refs_of}
use Rattle.eqc_apply.specs.Before.{IsBefore, IsSeat}

-- the list held is both lists, in whatever order
pub record Joins (old other new : Holding) : Type 0 where
  pub variables : new.variables ≡ old.variables
  pub held : (e : Entry) → count_by (entry_eq e) new.held ≡ count_by (entry_eq e) old.held
      + count_by (entry_eq e) other.held

-- the worker is who it was. The other's number and those that the other had taken in are out no
-- more at worker 0, and taken in at any other worker
pub record TakesIn (old other new : Standing) : Type 0 where
  pub forest : new.forest ≡ old.forest
  pub sizes : new.known.core.sizes ≡ old.known.core.sizes
  pub number : new.known.core.number ≡ old.known.core.number
  pub out : new.known.core.out ≡ out_after old.known.core other.known.core.number other.known.core

-- From here on: what the calls say to one another. No public promise cites it.

-- a worker at rest holds each name once for each of two tables that count it
pub record HasTwo (variables : ℕ) (s : Standing) (counts more : List ℕ) : Type 0 where
  pub rest : IsAtRest s.known.core
  pub cells : 0 < s.known.core.sizes.cells
  pub range : variables ≡ s.known.core.sizes.variables
  pub constants : (x : ℕ) → x < 2 → (get_or counts x 0 ≡ 0) × (get_or more x 0 ≡ 0)
  pub both : (x : ℕ) → 2 ≤ x → times x s.known.core.held ≡ min 1 (get_or counts x 0)
      + min 1 (get_or more x 0)

-- the references that two tables count
abbrev pub both_refs : List ℕ → List ℕ → ℕ → ℕ
both_refs counts more x = refs_of counts x + refs_of more x

-- the worker is who it was, what it held it holds, and both tables count as many references as
-- before
pub record Merges (old : Standing) (counts more : List ℕ) (new : Standing) (after left : List ℕ) :
    Type 0 where
  pub forest : new.forest ≡ old.forest
  pub seat : IsSeat old.known.core new.known.core
  pub before : IsBefore old.known new.known
  pub references : (x : ℕ) → both_refs after left x ≡ both_refs counts more x
  pub lengths : length after ≡ length counts
  pub left_lengths : length left ≡ length more

-- two tables, in the order in which they were or in the other
abbrev pub AreOrdered : (counts more after left : List ℕ) → Type 0
AreOrdered counts more after left = ((after ≡ counts) × (left ≡ more))
    ⊎ ((after ≡ more) × (left ≡ counts))

-- one table is left
pub record IsMerged (old : Standing) (counts more : List ℕ) (new : Standing) (after : List ℕ) : Type
    0 where
  pub forest : new.forest ≡ old.forest
  pub seat : IsSeat old.known.core new.known.core
  pub before : IsBefore old.known new.known
  pub references : (x : ℕ) → refs_of after x ≡ both_refs counts more x

-- the references of two workers stand on one worker's names, which have their trees
pub record HasTakenIn (old : Standing) (counts : List ℕ) (other : Standing) (more : List ℕ)
    (new : Standing) (after : List ℕ) : Type 0 where
  pub takes : TakesIn old other new
  pub references : (x : ℕ) → refs_of after x ≡ both_refs counts more x
  pub mine : (x : ℕ) → 0 < get_or counts x 0 → tree_of new.known x ≡ tree_of old.known x
  pub theirs : (x : ℕ) → 0 < get_or more x 0 → tree_of new.known x ≡ tree_of other.known x
