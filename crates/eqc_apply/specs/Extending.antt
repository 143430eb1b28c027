-- What an applier holds: the references that stand on its names. And the changes by which none of
-- them goes or comes.
use Rattle.std.specs.Prelude.{◌≡◌, ℕ, ◌+◌, ◌-◌, ◌≤◌, List, [], ◌∷◌, ◌++◌, get_or, replicate}
use Rattle.eqc_tree.specs.Holding.{Entry, Holding}
use Rattle.eqc_guard.specs.Known.{Known, tree_of}
use Rattle.eqc_apply.specs.declared.held.Held.{Held}
use Rattle.eqc_apply.specs.Names.{refs_of}
use Rattle.eqc_apply.specs.Before.{IsBefore, IsSeat}
use Rattle.eqc_plain.specs.Spending.{Spends}

-- a name, with its tree
abbrev pub entry_in : Known → ℕ → Entry
entry_in k x = record { number = x; tree = tree_of k x }

-- each name, from the i-th on, as often as references stand on it
abbrev pub listed : Known → ℕ → List ℕ → List Entry
listed k i [] = []
listed k i (c ∷ cs) = replicate (c - 1) (entry_in k i) ++ listed k (i + 1) cs

-- what is held with these counts
unfoldable pub holding_of : ℕ → Known → List ℕ → Holding
holding_of variables k counts = record { variables = variables; held = listed k 0 counts }

abbrev pub holding_in : Held → Holding
holding_in n = holding_of n.variables n.worker.known n.counts.items

-- From here on: what the calls say to one another. No public promise cites it.

-- the same references stand on names with the same trees
pub record Stays (old new : Held) : Type 0 where
  pub forest : new.worker.forest ≡ old.worker.forest
  pub seat : IsSeat old.worker.known.core new.worker.known.core
  pub variables : new.variables ≡ old.variables
  pub references : (x : ℕ) → refs_of new.counts.items x ≡ refs_of old.counts.items x
  pub tree : (x : ℕ) → 2 ≤ get_or old.counts.items x 0 → tree_of new.worker.known x
      ≡ tree_of old.worker.known x
  pub turns : Spends old.turns new.turns

-- and what was held is held, with its tree
pub record Extends (old new : Held) : Type 0 where
  pub forest : new.worker.forest ≡ old.worker.forest
  pub seat : IsSeat old.worker.known.core new.worker.known.core
  pub variables : new.variables ≡ old.variables
  pub references : (x : ℕ) → refs_of new.counts.items x ≡ refs_of old.counts.items x
  pub before : IsBefore old.worker.known new.worker.known
  pub turns : Spends old.turns new.turns
