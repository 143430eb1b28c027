-- Snapshots: names that an announcement word beyond the first has confirmed. Such a name stays
-- until its word is given up, though no count says so.
use Rattle.std.specs.Prelude.{◌≡◌, ◌≢◌, ℕ, ◌<◌, ◌≤◌}
use mathlib.Core.Option.{some}
use lib.ListN.{get_elem?}
use Rattle.eqc_core.specs.declared.phase.Phase.TheVariants.{Confirmed}
use Rattle.eqc_core.specs.View.{View, phase_at}
use Rattle.eqc_core.specs.Moves.{IsQuiet}
use Rattle.eqc_guard.specs.Known.{Known, tree_of}

-- the k-th announcement word, which is not the first, has confirmed the name x
abbrev pub IsSnapshot : View → ℕ → ℕ → Type 0
IsSnapshot v k x = (0 < k) × (2 ≤ x) × (get_elem? v.phases k ≡ some (Confirmed x))

-- it is confirmed by that word still, and has its tree
abbrev pub KeepsSnapshot : ℕ → ℕ → Known → Known → Type 0
KeepsSnapshot k x old after = IsSnapshot after.core k x × (tree_of after x ≡ tree_of old x)

-- so is each
abbrev pub KeepsSnapshots : Known → Known → Type 0
KeepsSnapshots old after = (k x : ℕ) → IsSnapshot old.core k x → KeepsSnapshot k x old after

-- so is each, but for one by the word j
abbrev pub KeepsOthers : ℕ → Known → Known → Type 0
KeepsOthers j old after = (k x : ℕ) → k ≢ j → IsSnapshot old.core k x → KeepsSnapshot k x old after

-- a snapshot may be taken by the k-th announcement word, which is not the first: it announces
-- nothing
abbrev pub IsFree : View → ℕ → Type 0
IsFree v k = (0 < k) × (k < v.sizes.announcements) × IsQuiet (phase_at v k)
