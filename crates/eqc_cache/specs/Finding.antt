-- What a lookup finds.
use Rattle.std.specs.Prelude.{◌≡◌, ◌≢◌, ℕ, ◌<◌, ◌≤◌, ◌⊎◌, [], ◌∷◌, ◌++◌, set, Bool}
use Rattle.eqc_tree.specs.Tree.{value}
use Rattle.eqc_tree.specs.Operation.{operate}
use Rattle.eqc_tree.specs.declared.operation.Op.{Op}
use Rattle.eqc_tree.specs.declared.operation.Op.TheVariants.{AndNot}
use Rattle.eqc_core.specs.declared.phase.Phase.{Phase}
use Rattle.eqc_core.specs.declared.phase.Phase.TheVariants.{Idle, Seen}
use Rattle.eqc_core.specs.View.{phase_at}
use Rattle.eqc_core.specs.Words.{times, slots_of}
use Rattle.eqc_core.specs.Moves.{IsQuiet}
use Rattle.eqc_guard.specs.Known.{IsKnown, KeepsCopy, tree_of}
use Rattle.eqc_guard.specs.Snapshots.{KeepsSnapshots}
use Rattle.eqc_guard.specs.Standing.{Standing}
use Rattle.eqc_guard.specs.Telling.{IsResult}

-- the operands as given, or the other way round where the operation allows it
abbrev pub IsOrdered : Op → ℕ → ℕ → ℕ × ℕ → Type 0
IsOrdered op f g p = (p ≡ (f, g)) ⊎ ((op ≢ AndNot) × (p ≡ (g, f)))

-- the name x was counted up after a second look: it is held once more, and the first announcement
-- word announces nothing
pub record IsTaken (x : ℕ) (old new : Standing) : Type 0 where
  pub forest : new.forest ≡ old.forest
  pub core : new.known.core ≡ record old.known.core {
    held = old.known.core.held ++ x ∷ [];
    phases =
        set old.known.core.phases 0 Idle;
  }
  pub trees : (y : ℕ) → 2 ≤ y → 0 < times y old.known.core.held → tree_of new.known y
      ≡ tree_of old.known y
  pub right : (c word : ℕ) → phase_at old.known.core 0 ≡ Seen c word
      → IsResult old.known word (tree_of new.known x)
  pub snapshots : KeepsSnapshots old.known new.known
  pub copy : KeepsCopy old.known new.known
  pub known : IsKnown new.known

-- a lookup found r: it is held once more unless it is a constant, its function is the operation's
-- of the operands' functions, and what was held has its tree
pub record IsHit (op : Op) (f g r : ℕ) (old new : Standing) : Type 0 where
  pub forest : new.forest ≡ old.forest
  pub phase : Phase
  pub quiet : IsQuiet phase
  pub core : new.known.core ≡ record old.known.core {
    held = old.known.core.held
        ++ slots_of (r ∷ []);
    phases = set old.known.core.phases 0 phase;
  }
  pub result : (a : ℕ → Bool) → operate op (value (tree_of old.known f) a)
      (value (tree_of old.known g) a) ≡ value (tree_of new.known r) a
  pub trees : (x : ℕ) → 2 ≤ x → 0 < times x old.known.core.held → tree_of new.known x
      ≡ tree_of old.known x
  pub snapshots : KeepsSnapshots old.known new.known
  pub copy : KeepsCopy old.known new.known
  pub known : IsKnown new.known
