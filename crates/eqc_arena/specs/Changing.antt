-- What a call changes of what a worker knows: some names go and others come.
use Rattle.std.specs.Prelude.{◌≡◌, ℕ, ◌+◌, ◌<◌, ◌≤◌, List, length, set, Option, None}
use Rattle.eqc_core.specs.declared.phase.Phase.{Phase}
use Rattle.eqc_core.specs.View.{View, Hand, Read, phase_at}
use Rattle.eqc_core.specs.Words.{times}
use Rattle.eqc_core.specs.Moves.{IsReady, IsQuiet}
use Rattle.eqc_guard.specs.Known.{IsKnown, KeepsCopy, tree_of}
use Rattle.eqc_guard.specs.Snapshots.{KeepsSnapshots}
use Rattle.eqc_guard.specs.Standing.{Standing}

-- a call may begin: no scan is under way, the first announcement word announces nothing, and
-- nothing is claimed or in hand. The other announcement words may announce names
pub record MayBegin (v : View) : Type 0 where
  pub ready : IsReady v
  pub quiet : IsQuiet (phase_at v 0)
  pub no_draft : v.draft ≡ None
  pub no_hand : v.hand ≡ None

-- these names went and those came; the others are held as often as before, in whatever order, and
-- what was held beyond those that went has its tree. The stripe in hand and the draft are these
-- now; the first announcement word announces nothing, where it announced nothing before. Who is
-- out, whether a scan is under way, and what the other announcement words announce is as before:
-- snapshots stay, with their trees
pub record Changes (gone came : List ℕ) (hand : Option Hand) (draft : Option ℕ)
    (old new : Standing) : Type 0 where
  pub forest : new.forest ≡ old.forest
  pub held : List ℕ
  pub phase : Phase
  pub retired : List ℕ
  pub read : Option Read
  pub turn : List ℕ
  pub stops : List ℕ
  pub core : new.known.core ≡ record old.known.core {
    held = held;
    phases =
        set old.known.core.phases 0 phase;
    retired = retired;
    read = read;
    turn = turn;
    stops = stops;
    hand = hand;
    draft = draft;
  }
  pub quiet : IsQuiet (phase_at old.known.core 0) → IsQuiet phase
  pub enough : (x : ℕ) → times x gone ≤ times x old.known.core.held
  pub names : (x : ℕ) → times x held + times x gone ≡ times x old.known.core.held + times x came
  pub lengths : length held + length gone ≡ length old.known.core.held + length came
  pub trees : (x : ℕ) → 2 ≤ x → times x gone < times x old.known.core.held → tree_of new.known x
      ≡ tree_of old.known x
  pub snapshots : KeepsSnapshots old.known new.known
  pub copy : KeepsCopy old.known new.known
  pub known : IsKnown new.known

-- the stripe in hand and the draft are as before
abbrev pub Exchanges : List ℕ → List ℕ → Standing → Standing → Type 0
Exchanges gone came old new = Changes gone came old.known.core.hand old.known.core.draft old new
