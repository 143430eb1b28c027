-- Walks in a graph that come back to where they were.
use Rattle.std.specs.Prelude.{◌≡◌, ℕ, ◌+◌, ◌-◌, ◌<◌, List, [], ◌∷◌, length, take, drop, Contains}
use Rattle.std.specs.Prelude.{slice_index_or}

-- no number stands twice in a list
abbrev pub StandOnce : List ℕ → Type 0
StandOnce xs = (i j : ℕ) → i < j → j < length xs → slice_index_or xs i 0 ≡ slice_index_or xs j 0 → ⊥

-- each but the first is among what follows the one before it
abbrev pub IsWalk : {X : Type 0} → (X → List X) → List X → Type 0
IsWalk next [] = Unit {0}
IsWalk next (x ∷ []) = Unit {0}
IsWalk next (x ∷ y ∷ ys) = Contains (next x) y × IsWalk next (y ∷ ys)

-- a walk from a first one, whose last stands before in it too, and which has no other twice
pub record WalksBack (next : ℕ → List ℕ) (first : ℕ) (walk : List ℕ) : Type 0 where
  pub follows : IsWalk next walk
  pub begins : slice_index_or walk 0 0 ≡ first
  pub back : (j : ℕ) × (j + 1 < length walk)
      × (slice_index_or walk j 0 ≡ slice_index_or walk (length walk - 1) 0)
  pub once : (i j : ℕ) → i < j → j + 1 < length walk → slice_index_or walk i 0
      ≡ slice_index_or walk j 0 → ⊥

-- what stands in a walk from a place on, but for the last
abbrev pub from_on : ℕ → List ℕ → List ℕ
from_on start walk = take (length (drop start walk) - 1) (drop start walk)
