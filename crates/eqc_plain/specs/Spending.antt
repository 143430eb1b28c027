-- How many more turns operations may take, where that is limited.
use Rattle.std.specs.Prelude.{◌≡◌, ℕ, ◌≤◌, Option, None, Some}

-- no more than n turns are left
abbrev pub AtMost : ℕ → Option ℕ → Type 0
AtMost n None = ⊥
AtMost n (Some left) = left ≤ n

-- none comes back, and without a limit there is none afterwards
pub record Spends (old new : Option ℕ) : Type 0 where
  pub endless : old ≡ None → new ≡ None
  pub left : (n : ℕ) → AtMost n old → AtMost n new

-- none is left
abbrev pub IsSpent : Option ℕ → Type 0
IsSpent turns = turns ≡ Some 0
