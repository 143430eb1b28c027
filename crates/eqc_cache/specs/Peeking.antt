-- A snapshot of a result that the cache has: it is read under its announcement, and no count has
-- it.
use Rattle.std.specs.Prelude.{◌≡◌, ℕ, ◌<◌, ◌≤◌, ◌⊎◌, [], ◌∷◌, ◌++◌, Bool}
use Rattle.eqc_tree.specs.Tree.{value}
use Rattle.eqc_tree.specs.Operation.{operate}
use Rattle.eqc_tree.specs.declared.operation.Op.{Op}
use Rattle.eqc_core.specs.declared.phase.Phase.TheVariants.{Confirmed}
use Rattle.eqc_core.specs.View.{View, phase_at}
use Rattle.eqc_core.specs.Words.{times, slots_of}
use Rattle.eqc_core.specs.Moves.{IsQuiet}
use Rattle.eqc_guard.specs.Known.{Known, IsKnown, KeepsCopy, tree_of}
use Rattle.eqc_guard.specs.Snapshots.{IsSnapshot, IsFree, KeepsSnapshots}
use Rattle.eqc_guard.specs.Standing.{Standing}
use Rattle.eqc_guard.specs.Acquiring.{IsAt, IsPassed}
use Rattle.eqc_cache.specs.declared.peeking.Snapshot.{Snapshot}

-- the snapshot is out at the worker: it is of a constant, or of a name that its announcement word,
-- which is not the first, has confirmed
abbrev pub IsOut : View → Snapshot → Type 0
IsOut v s = (s.number < 2) ⊎ IsSnapshot v s.word s.number

-- the tree of the name is the operation's function of the operands' functions, as they were before
abbrev pub HasFunction : Op → ℕ → ℕ → ℕ → Known → Known → Type 0
HasFunction op f g r old new = (a : ℕ → Bool)
    → operate op (value (tree_of old f) a) (value (tree_of old g) a) ≡ value (tree_of new r) a

-- an announcement word that announced nothing announces nothing still, and nothing else has changed
pub record Passes (old new : Standing) : Type 0 where
  pub word : ℕ
  pub was_quiet : IsQuiet (phase_at old.known.core word)
  pub passed : IsPassed word old new

-- a snapshot was taken: that of a constant by no word, that of a node by the announcement of a word
-- that announced nothing; nothing else has changed
pub record IsPeeked (op : Op) (f g : ℕ) (s : Snapshot) (old new : Standing) : Type 0 where
  pub function : HasFunction op f g s.number old.known new.known
  pub constant : s.number < 2 → Passes old new
  pub node : 2 ≤ s.number → IsFree old.known.core s.word × IsAt s.word (Confirmed s.number) old new

-- there is a word by which a snapshot may be taken
abbrev pub HasFreeWord : View → Type 0
HasFreeWord v = (k : ℕ) × IsFree v k

-- a name that is a constant, or stays, is held once more, and nothing else has changed; each name
-- that was held, or had a snapshot, has its tree, and so has this one
pub record IsKept (x : ℕ) (old new : Standing) : Type 0 where
  pub forest : new.forest ≡ old.forest
  pub core : new.known.core ≡ record old.known.core {
    held = old.known.core.held
        ++ slots_of (x ∷ []);
  }
  pub tree : tree_of new.known x ≡ tree_of old.known x
  pub trees : (y : ℕ) → 2 ≤ y → 0 < times y old.known.core.held → tree_of new.known y
      ≡ tree_of old.known y
  pub snapshots : KeepsSnapshots old.known new.known
  pub copy : KeepsCopy old.known new.known
  pub known : IsKnown new.known
