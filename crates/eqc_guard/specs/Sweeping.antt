-- What a whole scan leaves. Snapshots stay, and so do the cells: a worker that is alone has the
-- same ones in its copy of the words, and where it announces nothing, nothing is retired any
-- longer.
use Rattle.std.specs.Prelude.{◌≡◌, ℕ, ◌+◌, ◌<◌, ◌≤◌, List, [], ◌++◌, length, Some}
use mathlib.Core.Option.{some}
use lib.ListN.{get_elem?}
use Rattle.eqc_core.specs.declared.phase.Phase.{Phase}
use Rattle.eqc_core.specs.View.{View}
use Rattle.eqc_core.specs.Words.{times, announced_words}
use Rattle.eqc_core.specs.Moves.{IsQuiet, forget}
use Rattle.eqc_guard.specs.Known.{Known, IsKnown, tree_of}
use Rattle.eqc_guard.specs.Copying.{KeepsCells}
use Rattle.eqc_guard.specs.Snapshots.{KeepsSnapshots}
use Rattle.eqc_guard.specs.Standing.{Standing}

-- none of the worker's announcement words but the first announces a name
abbrev pub IsSilent : View → Type 0
IsSilent v = (k : ℕ) (p : Phase) → 0 < k → get_elem? v.phases k ≡ some p → IsQuiet p

-- there are none of these, where the worker has a copy of the words and announces nothing: then
-- nobody else is active
abbrev pub AreNone : Known → List ℕ → Type 0
AreNone k names = IsSilent k.core → (ws : List ℕ) → k.copy ≡ Some ws → names ≡ []

-- the view in the middle of a scan
abbrev pub scanning : View → ℕ → List ℕ → View
scanning v position noted = record v { position = position; noted = noted }

-- the scan that began at old has come so far
pub record IsScanning (old mid : Standing) : Type 0 where
  pub forest : mid.forest ≡ old.forest
  pub position : ℕ
  pub noted : List ℕ
  pub core : mid.known.core ≡ scanning old.known.core position noted
  pub alone : AreNone old.known noted
  pub trees : (x : ℕ) → 2 ≤ x → 0 < times x old.known.core.held → tree_of mid.known x
      ≡ tree_of old.known x
  pub snapshots : KeepsSnapshots old.known mid.known
  pub copy : KeepsCells old.known mid.known
  pub known : IsKnown mid.known

-- it is over: these names are held, few are retired still, and what was held has its tree
pub record IsSwept (ejected : List ℕ) (old new : Standing) : Type 0 where
  pub forest : new.forest ≡ old.forest
  pub retired : List ℕ
  pub core : new.known.core ≡ record old.known.core {
    held = old.known.core.held ++ ejected;
    position = 0;
    noted = [];
    retired = retired;
  }
  pub names : (x : ℕ) → times x retired + times x ejected ≡ times x old.known.core.retired
  pub few : length retired ≤ announced_words old.known.core.sizes
  pub alone : AreNone old.known retired
  pub trees : (x : ℕ) → 2 ≤ x → 0 < times x old.known.core.held → tree_of new.known x
      ≡ tree_of old.known x
  pub snapshots : KeepsSnapshots old.known new.known
  pub copy : KeepsCells old.known new.known
  pub known : IsKnown new.known

-- of the names that came out of a scan these are left, and the others were given back
pub record IsLetting (gone rest : List ℕ) (swept mid : Standing) : Type 0 where
  pub forest : mid.forest ≡ swept.forest
  pub held : List ℕ
  pub core : mid.known.core ≡ record swept.known.core {
    held = held;
    read =
        forget held swept.known.core.read;
  }
  pub names : (x : ℕ) → times x held + times x gone ≡ times x swept.known.core.held + times x rest
  pub lengths : length held + length gone ≡ length swept.known.core.held + length rest
  pub trees : (x : ℕ) → 2 ≤ x → 0 < times x held → tree_of mid.known x ≡ tree_of swept.known x
  pub snapshots : KeepsSnapshots swept.known mid.known
  pub copy : KeepsCells swept.known mid.known
  pub known : IsKnown mid.known

-- a scan is over, and what came out was given back: what is held is held as often as before, in
-- another order maybe, and few names are retired still
pub record IsScanned (old new : Standing) : Type 0 where
  pub forest : new.forest ≡ old.forest
  pub held : List ℕ
  pub retired : List ℕ
  pub core : new.known.core ≡ record old.known.core {
    held = held;
    position = 0;
    noted = [];
    retired = retired;
  }
  pub same : (x : ℕ) → times x held ≡ times x old.known.core.held
  pub lengths : length held ≡ length old.known.core.held
  pub names : (x : ℕ) → times x retired ≤ times x old.known.core.retired
  pub few : length retired ≤ announced_words old.known.core.sizes
  pub alone : AreNone old.known retired
  pub trees : (x : ℕ) → 2 ≤ x → 0 < times x old.known.core.held → tree_of new.known x
      ≡ tree_of old.known x
  pub snapshots : KeepsSnapshots old.known new.known
  pub copy : KeepsCells old.known new.known
  pub known : IsKnown new.known
