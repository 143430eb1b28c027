-- What a counted load leaves.
use Rattle.std.specs.Prelude.{◌≡◌, ℕ, ◌<◌, ◌≤◌}
use Rattle.eqc_core.specs.declared.phase.Phase.{Phase}
use Rattle.eqc_core.specs.declared.phase.Phase.TheVariants.{Confirmed}
use Rattle.eqc_core.specs.Words.{times, result_of}
use Rattle.eqc_core.specs.Moves.{IsQuiet, with_phase}
use Rattle.eqc_guard.specs.Known.{IsKnown, KeepsCopy, tree_of}
use Rattle.eqc_guard.specs.Snapshots.{KeepsOthers}
use Rattle.eqc_guard.specs.Standing.{Standing}
use Rattle.eqc_guard.specs.Telling.{IsResult}

-- the phase of the worker's k-th announcement word alone is another; what it holds has its tree,
-- and so have snapshots by other words
pub record IsAt (k : ℕ) (p : Phase) (old new : Standing) : Type 0 where
  pub forest : new.forest ≡ old.forest
  pub core : new.known.core ≡ with_phase old.known.core k p
  pub trees : (x : ℕ) → 2 ≤ x → 0 < times x old.known.core.held → tree_of new.known x
      ≡ tree_of old.known x
  pub others : KeepsOthers k old.known new.known
  pub copy : KeepsCopy old.known new.known
  pub known : IsKnown new.known

-- a word was confirmed: its result is announced by the k-th announcement word, and the operation of
-- the word on what the worker knows of its operands gives the result's tree
pub record IsAcquired (k word : ℕ) (old new : Standing) : Type 0 where
  pub slot : 2 ≤ result_of word
  pub confirmed : IsAt k (Confirmed (result_of word)) old new
  pub right : IsResult old.known word (tree_of new.known (result_of word))

-- no word was confirmed, and nothing is announced by the k-th announcement word
pub record IsPassed (k : ℕ) (old new : Standing) : Type 0 where
  pub phase : Phase
  pub quiet : IsQuiet phase
  pub stands : IsAt k phase old new
