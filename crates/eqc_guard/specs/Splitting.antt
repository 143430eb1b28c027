-- When a worker is split off, why none is, and what it leaves where one is taken in.
use Rattle.std.specs.Prelude.{◌≡◌, ℕ, ◌+◌, ◌*◌, ◌<◌, ◌≤◌, List, [], length, eqb, if◌then◌else◌}
use Rattle.std.specs.Prelude.{Some}
use Rattle.eqc_core.specs.View.{View}
use Rattle.eqc_core.specs.Words.{announced_words, times}
use Rattle.eqc_core.specs.Seating.{out_after, joined}
use Rattle.eqc_guard.specs.declared.fault.SplitFault.{SplitFault}
use Rattle.eqc_guard.specs.declared.fault.SplitFault.TheVariants.{Memory, NoneLeft}
use Rattle.eqc_guard.specs.Known.{IsKnown, names_of, tree_of}
use Rattle.eqc_guard.specs.Seats.{split_left, split_off}
use Rattle.eqc_guard.specs.Standing.{Standing, Steps}

-- the number of a fault in a report
abbrev pub code_of : SplitFault → ℕ
code_of Memory = 72
code_of NoneLeft = 75

-- worker 0 has a number that was never given
abbrev pub HasNumber : View → Type 0
HasNumber v = (v.number ≡ 0) × (v.given < v.sizes.workers)

abbrev pub WhyNot : View → SplitFault → Type 0
WhyNot v Memory = HasNumber v
WhyNot v NoneLeft = HasNumber v → ⊥

-- the next number was split off a worker, and another worker has it
pub record IsSplit (old : Standing) (new : Standing) (other : Standing) : Type 0 where
  pub could : HasNumber old.known.core
  pub forest : new.forest ≡ old.forest
  pub known : new.known ≡ split_left old.known
  pub other_forest : other.forest ≡ old.forest
  pub other_known : other.known ≡ split_off old.known

-- a worker took another in: it has what both had, and what either named has its tree
pub record IsJoined (old other new : Standing) : Type 0 where
  pub forest : new.forest ≡ old.forest
  pub core : new.known.core ≡ joined old.known.core other.known.core.number other.known.core
  pub mine : (x : ℕ) → 2 ≤ x → 0 < times x (names_of old.known.core)
      → 0 < times x (names_of new.known.core) → tree_of new.known x ≡ tree_of old.known x
  pub theirs : (x : ℕ) → 2 ≤ x → 0 < times x (names_of other.known.core)
      → 0 < times x (names_of new.known.core) → tree_of new.known x ≡ tree_of other.known x
  pub known : IsKnown new.known

-- a worker took another in, after both scanned: it holds what both held, in whatever order, and
-- each name that either held has its tree
pub record IsAbsorbed (old other new : Standing) : Type 0 where
  pub forest : new.forest ≡ old.forest
  pub held : List ℕ
  pub retired : List ℕ
  pub core : new.known.core ≡ record old.known.core {
    held = held;
    position = 0;
    noted = [];
    retired = retired;
    out = out_after old.known.core other.known.core.number other.known.core;
  }
  pub names : (x : ℕ) → times x held ≡ times x old.known.core.held + times x other.known.core.held
  pub lengths : length held ≡ length old.known.core.held + length other.known.core.held
  pub few : length retired ≤ 2 * announced_words old.known.core.sizes
  pub mine : (x : ℕ) → 2 ≤ x → 0 < times x old.known.core.held → tree_of new.known x
      ≡ tree_of old.known x
  pub theirs : (x : ℕ) → 2 ≤ x → 0 < times x other.known.core.held → tree_of new.known x
      ≡ tree_of other.known x
  pub known : IsKnown new.known

-- how many of the numbers that a worker split off have not come back
abbrev pub outstanding : View → ℕ
outstanding v = if eqb v.number 0 then length v.out else 0

-- a load took a copy of all words: the one that the worker had, where it had one
pub record IsCopied (old new : Standing) : Type 0 where
  pub step : Steps old old.known.core new
  pub words : List ℕ
  pub copy : new.known.copy ≡ Some words
  pub same : (ws : List ℕ) → old.known.copy ≡ Some ws → words ≡ ws
  pub counted : new.known.counted ≡ old.known.counted

-- worker 0, while no number is out
abbrev pub IsAlone : View → Type 0
IsAlone v = (v.number ≡ 0) × (outstanding v ≡ 0)
