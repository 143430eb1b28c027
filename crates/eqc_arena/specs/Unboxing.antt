-- What the boxes have, and what a worker that is alone knows of them.
use Rattle.std.specs.Prelude.{◌≡◌, ℕ, ◌<◌, ◌≤◌, List, Some}
use Rattle.eqc_core.specs.View.{View}
use Rattle.eqc_core.specs.Words.{times}
use Rattle.eqc_guard.specs.declared.parcel.Parcel.{Parcel}
use Rattle.eqc_guard.specs.Known.{Known}
use Rattle.eqc_guard.specs.Copying.{box_in}
use Rattle.eqc_guard.specs.Sharing.{parcel_names, parcel_stops}

-- each name of the parcel is held as often as the parcel has it
abbrev pub HoldsParcel : View → Parcel → Type 0
HoldsParcel v parcel = (x : ℕ) → times x (parcel_names parcel) ≤ times x v.held

-- the first n boxes are empty in the copy of a worker that had one
abbrev pub AreUnboxed : ℕ → Known → Known → Type 0
AreUnboxed n k after = (ws : List ℕ) → k.copy ≡ Some ws → (left : List ℕ) × (after.copy ≡ Some left)
    × ((b : ℕ) → b < n → box_in k left b ≡ 0)

-- the search for a free slot stands where it stood, and each stop that was noted is noted still
pub record KeepsMarks (old new : View) : Type 0 where
  pub sizes : new.sizes ≡ old.sizes
  pub turn : new.turn ≡ old.turn
  pub stops : (x : ℕ) → times x old.stops ≤ times x new.stops

-- the stop of this parcel is noted
abbrev pub NotesStop : Parcel → View → Type 0
NotesStop parcel v = (x : ℕ) → times x (parcel_stops parcel) ≤ times x v.stops
