-- A search for a free slot: the slots are tried one after the other, and one that is won is the
-- worker's draft.
use Rattle.std.specs.Prelude.{◌≡◌, ℕ, ◌<◌, ◌≤◌, List}
use Rattle.eqc_core.specs.View.{View}
use Rattle.eqc_core.specs.Words.{times}
use Rattle.eqc_core.specs.Making.{claimed}
use Rattle.eqc_guard.specs.Known.{IsKnown, KeepsCopy, names_of, tree_of}
use Rattle.eqc_guard.specs.Standing.{Standing}

-- a slot was free, and is the draft now; what was named has its tree
pub record IsDrafted (slot : ℕ) (old new : Standing) : Type 0 where
  pub forest : new.forest ≡ old.forest
  pub first : 2 ≤ slot
  pub there : slot < old.known.core.sizes.names
  pub core : new.known.core ≡ claimed old.known.core slot
  pub trees : (x : ℕ) → 2 ≤ x → 0 < times x (names_of old.known.core) → tree_of new.known x
      ≡ tree_of old.known x
  pub copy : KeepsCopy old.known new.known
  pub known : IsKnown new.known

-- the slots from `first` up to `last` were tried and seen taken; what was seen taken before still
-- is
pub record HasSeen (first last : ℕ) (old new : Standing) : Type 0 where
  pub forest : new.forest ≡ old.forest
  pub turn : List ℕ
  pub core : new.known.core ≡ record old.known.core { turn = turn }
  pub seen : (x : ℕ) → first ≤ x → x < last → 0 < times x turn
  pub before : (x : ℕ) → 0 < times x old.known.core.turn → 0 < times x turn
  pub trees : (x : ℕ) → 2 ≤ x → 0 < times x (names_of old.known.core) → tree_of new.known x
      ≡ tree_of old.known x
  pub copy : KeepsCopy old.known new.known
  pub known : IsKnown new.known

-- every slot was seen taken, since a slot or a lock was last won
abbrev pub HasSeenAll : View → Type 0
HasSeenAll v = (x : ℕ) → 2 ≤ x → x < v.sizes.names → 0 < times x v.turn
