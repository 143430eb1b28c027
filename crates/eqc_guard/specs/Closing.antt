-- What the last worker tells of the words.
use Rattle.std.specs.Prelude.{◌≡◌, ℕ, zero, suc, ◌+◌, ◌-◌, List, get_or, ltb, if◌then◌else◌, Some}
use Rattle.eqc_guard.specs.Known.{Known, IsCopy}

-- how many of n words, from the i-th on, are above 0
abbrev pub above_zero : List ℕ → ℕ → ℕ → ℕ
above_zero ws i zero = 0
above_zero ws i (suc n) = above_zero ws i n + (if ltb 0 (get_or ws (i + n) 0) then 1 else 0)

-- so many slots have a count above 0, in a lawful state in which the worker has this view and
-- nobody else is active; where the worker had a copy of the words, they are those of the state
pub record IsTallied (counted : ℕ) (k : Known) : Type 0 where
  pub words : List ℕ
  pub state : IsCopy k words
  pub same : (ws : List ℕ) → k.copy ≡ Some ws → words ≡ ws
  pub exact : counted ≡ above_zero state.words.counts 2 (k.core.sizes.names - 2)
