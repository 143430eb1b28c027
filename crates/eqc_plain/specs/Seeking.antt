-- For proofs alone: where the words of a unique table are found (open addressing). No public
-- promise cites it.
use Rattle.std.specs.Prelude.{◌≡◌, ◌≢◌, ℕ, ◌+◌, ◌-◌, ◌*◌, ◌/◌, ◌%◌, ◌^◌, ◌<◌, List, length}
use Rattle.std.specs.Prelude.{slice_index, set, ltb, if◌then◌else◌}
use Rattle.std.specs.Int.Bits.{bit_and}
use Rattle.eqc_plain.specs.declared.unique_table.Sought.{Sought}
use Rattle.eqc_plain.specs.declared.unique_table.Sought.TheVariants.{Found, Free, Full}

-- the bits of a word mixed: it is multiplied by the golden ratio
unfoldable pub mixed_of : ℕ → ℕ
mixed_of word = word * 11400714819323198485 % 2 ^ 64

-- a word's own place, of so many
unfoldable pub home_of : ℕ → ℕ → ℕ
home_of places word = bit_and (mixed_of word / 2 ^ 40) (places - 1)

-- a word's mark, above the numbers
unfoldable pub mark_of : ℕ → ℕ
mark_of word = mixed_of word / 2 ^ 28 % 4096 * 1048576

-- the place that comes so many steps behind a place, of so many
unfoldable pub position : ℕ → ℕ → ℕ → ℕ
position places place step = if ltb step (places - place) then place
    + step else step - (places - place)

-- what stands so many steps behind a word's own place
abbrev pub entry_behind : List ℕ → ℕ → ℕ → ℕ
entry_behind places word step =
    slice_index places (position (length places) (home_of (length places) word) step)

-- the places before this step, from the word's own one on, are taken
abbrev pub AreTaken : List ℕ → ℕ → ℕ → Type 0
AreTaken places word step = (e : ℕ) → e < step → entry_behind places word e ≢ 0

-- a word that stands in slot k is found: its place comes behind its own one, and none between is
-- free
pub record Sits (places : List ℕ) (word k : ℕ) : Type 0 where
  pub step : ℕ
  pub within : step < length places
  pub there : entry_behind places word step ≡ mark_of word + k + 1
  pub before : AreTaken places word step

-- each of the words is found
abbrev pub IsPlaced : List ℕ → List ℕ → Type 0
IsPlaced places words = (k : ℕ) → k < length words → Sits places (slice_index words k) k

-- the first free place from a word's own one on
pub record IsFree (places : List ℕ) (word place : ℕ) : Type 0 where
  pub step : ℕ
  pub within : step < length places
  pub at : place ≡ position (length places) (home_of (length places) word) step
  pub inside : place < length places
  pub free : slice_index places place ≡ 0
  pub before : AreTaken places word step

-- none of the words is this one, if all are found
abbrev pub IsMissed : List ℕ → List ℕ → ℕ → Type 0
IsMissed words places word = IsPlaced places words → (k : ℕ) → k < length words
    → slice_index words k ≢ word

-- what a search for a word came to
abbrev pub IsSought : List ℕ → List ℕ → ℕ → Sought → Type 0
IsSought words places word (Found slot) = (slot < length words) × (slice_index words slot ≡ word)
IsSought words places word (Free place) = IsFree places word place × IsMissed words places word
IsSought words places word Full = IsMissed words places word

-- the number of a word that stands in a slot came into a place
abbrev pub Puts : (old new : List ℕ) → (place word slot : ℕ) → Type 0
Puts old new place word slot = new ≡ set old place (mark_of word + slot + 1)
