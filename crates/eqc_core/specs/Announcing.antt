-- A counted load without waiting (Anderson, Blelloch and Wei 2021: acquire and release): look at a
-- cell, announce its result, look again; and the withdrawal.
use Rattle.std.specs.Prelude.{◌≡◌, ℕ, ◌<◌, ◌≤◌, if◌then◌else◌, eqb}
use Rattle.eqc_core.specs.declared.phase.Phase.{Phase}
use Rattle.eqc_core.specs.declared.phase.Phase.TheVariants.{Idle, Seen, Announced, Confirmed}
use Rattle.eqc_core.specs.declared.phase.Phase.TheVariants.{Missed}
use Rattle.eqc_core.specs.View.{View, phase_at}
use Rattle.eqc_core.specs.Words.{result_of}
use Rattle.eqc_core.specs.Moves.{IsReady, IsQuiet, with_phase}

-- a look at the cell c, for the k-th announcement word
abbrev pub MayLook : View → ℕ → ℕ → Type 0
MayLook v k c = IsReady v × (k < v.sizes.announcements) × (c < v.sizes.cells)
    × IsQuiet (phase_at v k)

abbrev pub looked : View → ℕ → ℕ → ℕ → View
looked v k c word = with_phase v k (Seen c word)

-- what a phase lets be stored: the result that was seen, or 0 where a name is announced
abbrev pub LetsAnnounce : Phase → ℕ → Type 0
LetsAnnounce Idle x = ⊥
LetsAnnounce (Seen c word) x = (2 ≤ x) × (x ≡ result_of word)
LetsAnnounce (Announced c word) x = x ≡ 0
LetsAnnounce (Confirmed y) x = x ≡ 0
LetsAnnounce (Missed y) x = x ≡ 0

abbrev pub MayAnnounce : View → ℕ → ℕ → Type 0
MayAnnounce v k x = IsReady v × (k < v.sizes.announcements) × LetsAnnounce (phase_at v k) x

abbrev pub announced_phase : Phase → Phase
announced_phase Idle = Idle
announced_phase (Seen c word) = Announced c word
announced_phase (Announced c word) = Idle
announced_phase (Confirmed y) = Idle
announced_phase (Missed y) = Idle

abbrev pub announced : View → ℕ → View
announced v k = with_phase v k (announced_phase (phase_at v k))

-- the cell that a second look reads
abbrev pub announced_cell : Phase → ℕ
announced_cell Idle = 0
announced_cell (Seen c word) = 0
announced_cell (Announced c word) = c
announced_cell (Confirmed y) = 0
announced_cell (Missed y) = 0

abbrev pub IsAnnounced : Phase → Type 0
IsAnnounced Idle = ⊥
IsAnnounced (Seen c word) = ⊥
IsAnnounced (Announced c word) = Unit {0}
IsAnnounced (Confirmed y) = ⊥
IsAnnounced (Missed y) = ⊥

abbrev pub MayRecheck : View → ℕ → Type 0
MayRecheck v k = IsReady v × (k < v.sizes.announcements) × IsAnnounced (phase_at v k)

-- the second look compares the whole word
abbrev pub rechecked_phase : Phase → ℕ → Phase
rechecked_phase Idle found = Idle
rechecked_phase (Seen c word) found = Seen c word
rechecked_phase (Announced c word) found = if eqb found word then Confirmed (result_of word) else
    Missed (result_of word)
rechecked_phase (Confirmed y) found = Confirmed y
rechecked_phase (Missed y) found = Missed y

abbrev pub rechecked : View → ℕ → ℕ → View
rechecked v k found = with_phase v k (rechecked_phase (phase_at v k) found)
