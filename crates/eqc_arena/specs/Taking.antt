-- What the calls of a collection do where the worker is alone and holds nothing, in any turn.
use Rattle.std.specs.Prelude.{◌≡◌, ℕ, ◌+◌, ◌<◌, List, [], ◌∷◌}
use Rattle.eqc_core.specs.Words.{slots_of}
use Rattle.eqc_core.specs.Tables.{Entries}
use Rattle.eqc_guard.specs.Standing.{Standing}
use Rattle.eqc_guard.specs.Locking.{MayHome}
use Rattle.eqc_arena.specs.Emptying.{IsBetween, IsTrying, IsFrom, HasNoCounts}

-- the map of the stripe in hand is still its map
abbrev pub HomesStill : Entries → Entries → Standing → Standing → Type 0
HomesStill t left old new = (s : ℕ) → MayHome old.known.core s t → MayHome new.known.core s left

-- a name that came with a node that was taken back is given back
abbrev pub GivesChild : ℕ → Standing → Standing → Type 0
GivesChild x old new = (n s taken i : ℕ) (xs : List ℕ) (t : Entries) → 0 < taken
    → IsTrying (slots_of (x ∷ xs)) n s taken i t old.known
    → IsTrying (slots_of xs) n s taken i t new.known

-- so many more were taken back in a turn, beside its stripes
abbrev pub TakesMore : ℕ → Standing → Standing → Type 0
TakesMore count old new = (n s taken : ℕ) → IsBetween [] n s taken old.known
    → IsBetween [] n s (taken + count) new.known

-- the i-th entry is tried, after those behind it
abbrev pub TriesEntry : ℕ → Entries → Entries → ℕ → Standing → Standing → Type 0
TriesEntry i t left count old new = (n s taken : ℕ) → MayHome old.known.core s t
    → IsTrying [] n s taken (i + 1) t old.known → IsTrying [] n s (taken + count) i left new.known

-- the stripe s is done, after those before it
abbrev pub TriesStripe : ℕ → ℕ → Standing → Standing → Type 0
TriesStripe s count old new = (n taken : ℕ) → IsBetween [] n s taken old.known
    → IsBetween [] n (s + 1) (taken + count) new.known

-- a turn leaves greater variables, and where it took nothing back there was nothing
abbrev pub TriesAll : ℕ → Standing → Standing → Type 0
TriesAll count old new = (n : ℕ) → IsFrom n old.known → IsFrom (n + 1) new.known
    × (count ≡ 0 → HasNoCounts new.known)
