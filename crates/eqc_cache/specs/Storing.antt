-- What a worker holds while it stores, and afterwards.
use Rattle.std.specs.Prelude.{◌≡◌, ℕ, ◌+◌, ◌^◌, ◌<◌, ◌≤◌, List, length, set, Option, Bool}
use Rattle.eqc_tree.specs.Tree.{value}
use Rattle.eqc_tree.specs.Operation.{operate}
use Rattle.eqc_tree.specs.declared.operation.Op.{Op}
use Rattle.eqc_core.specs.declared.phase.Phase.{Phase}
use Rattle.eqc_core.specs.View.{phase_at}
use Rattle.eqc_core.specs.Words.{times}
use Rattle.eqc_core.specs.Moves.{IsReady, IsQuiet, forget}
use Rattle.eqc_guard.specs.declared.filled.Filled.{Filled}
use Rattle.eqc_guard.specs.Known.{Known, IsKnown, KeepsCopy, tree_of}
use Rattle.eqc_guard.specs.Filling.{HasEntry}
use Rattle.eqc_guard.specs.Snapshots.{KeepsSnapshots}
use Rattle.eqc_guard.specs.Standing.{Standing}

-- the operation on the functions of the operands gives the function of the result, as the worker
-- knows them
abbrev pub IsRight : Known → Op → ℕ → ℕ → ℕ → Type 0
IsRight k op f g r = (a : ℕ → Bool) → operate op (value (tree_of k f) a) (value (tree_of k g) a)
    ≡ value (tree_of k r) a

-- a worker may change what a cell has
pub record MayReplace (k : Known) (c : ℕ) (filled : Option Filled) : Type 0 where
  pub known : IsKnown k
  pub ready : IsReady k.core
  pub there : c < k.core.sizes.cells
  pub quiet : IsQuiet (phase_at k.core 0)
  pub entry : HasEntry k filled
  pub room : length k.core.held ≤ 2 ^ 39

-- some names went and others came: the others are held as often as before, in whatever order, and
-- what was held beyond those that went has its tree
pub record Trades (gone came : List ℕ) (old new : Standing) : Type 0 where
  pub forest : new.forest ≡ old.forest
  pub held : List ℕ
  pub retired : List ℕ
  pub phase : Phase
  pub quiet : IsQuiet phase
  pub core : new.known.core ≡ record old.known.core {
    held = held;
    read =
        forget held old.known.core.read;
    retired = retired;
    phases =
        set old.known.core.phases 0 phase;
  }
  pub enough : (x : ℕ) → times x gone ≤ times x old.known.core.held
  pub names : (x : ℕ) → times x held + times x gone ≡ times x old.known.core.held + times x came
  pub lengths : length held + length gone ≡ length old.known.core.held + length came
  pub trees : (x : ℕ) → 2 ≤ x → times x gone < times x old.known.core.held → tree_of new.known x
      ≡ tree_of old.known x
  pub snapshots : KeepsSnapshots old.known new.known
  pub copy : KeepsCopy old.known new.known
  pub known : IsKnown new.known

-- the worker holds what it held, each name as often as before, in whatever order, and each has its
-- tree
pub record IsAsBefore (old new : Standing) : Type 0 where
  pub forest : new.forest ≡ old.forest
  pub held : List ℕ
  pub retired : List ℕ
  pub phase : Phase
  pub quiet : IsQuiet phase
  pub core : new.known.core ≡ record old.known.core {
    held = held;
    retired = retired;
    phases =
        set old.known.core.phases 0 phase;
  }
  pub names : (x : ℕ) → times x held ≡ times x old.known.core.held
  pub lengths : length held ≡ length old.known.core.held
  pub trees : (x : ℕ) → 2 ≤ x → 0 < times x old.known.core.held → tree_of new.known x
      ≡ tree_of old.known x
  pub snapshots : KeepsSnapshots old.known new.known
  pub copy : KeepsCopy old.known new.known
  pub known : IsKnown new.known
