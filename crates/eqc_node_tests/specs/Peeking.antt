-- What the tests know of a worker that has snapshots out.
use Rattle.std.specs.Prelude.{◌≡◌, ◌≢◌, ℕ, ◌<◌, ◌≤◌, List, length, None}
use mathlib.Core.Option.{some}
use lib.ListN.{get_elem?}
use Rattle.eqc_core.specs.declared.phase.Phase.{Phase}
use Rattle.eqc_core.specs.declared.phase.Phase.TheVariants.{Idle, Seen, Announced, Confirmed}
use Rattle.eqc_core.specs.declared.phase.Phase.TheVariants.{Missed}
use Rattle.eqc_core.specs.View.{View, phase_at}
use Rattle.eqc_core.specs.Words.{times}
use Rattle.eqc_guard.specs.declared.reference.Ref.{Ref}
use Rattle.eqc_guard.specs.Standing.{Standing}
use Rattle.eqc_cache.specs.declared.peeking.Snapshot.{Snapshot}
use Rattle.eqc_node_tests.specs.Making.{references_of, announces}

-- the name that a phase has confirmed
abbrev pub confirmed_in : Phase → ℕ
confirmed_in Idle = 0
confirmed_in (Seen c word) = 0
confirmed_in (Announced c word) = 0
confirmed_in (Confirmed x) = x
confirmed_in (Missed x) = 0

-- the snapshot's word is there, is not the first one, and has confirmed its name
abbrev pub IsConfirmed : View → Snapshot → Type 0
IsConfirmed v p = (0 < p.word) × (p.word < length v.phases)
    × (confirmed_in (phase_at v p.word) ≡ p.number)

-- a worker, whose first announcement word announces nothing, holds what the references are of, and
-- its snapshots are out, each of a node by a word of its own
pub record IsPeeking (references : List Ref) (snapshots : List Snapshot) (s : Standing) : Type 0
  where
    pub place : s.known.core.position ≡ 0
    pub first : announces (phase_at s.known.core 0) ≡ 0
    pub no_draft : s.known.core.draft ≡ None
    pub no_hand : s.known.core.hand ≡ None
    pub four_words : s.known.core.sizes.announcements ≡ 4
    pub cells : 0 < s.known.core.sizes.cells
    pub covered : (x : ℕ) → 2 ≤ x → references_of x references ≤ times x s.known.core.held
    pub out : (i : ℕ) (p : Snapshot) → get_elem? snapshots i ≡ some p → 2 ≤ p.number
        → IsConfirmed s.known.core p
    pub apart : (i j : ℕ) (p q : Snapshot) → i < j → get_elem? snapshots i ≡ some p
        → get_elem? snapshots j ≡ some q → 2 ≤ p.number → 2 ≤ q.number → p.word ≢ q.word
