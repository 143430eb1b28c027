-- What a store holds, and when all its slots are taken.
use Rattle.std.specs.Prelude.{◌≡◌, length}
use Rattle.eqc_tree.specs.Holding.{Holding, Keeps}
use Rattle.eqc_plain.specs.declared.store.Store.{Store}
use Rattle.eqc_plain.specs.Store.{Grows, holding_of}

-- what a store holds
abbrev pub holding_in : Store → Holding
holding_in s = holding_of s.variables s.nodes s.counts.items

-- all slots are taken
abbrev pub IsFull : Store → Type 0
IsFull s = length s.nodes ≡ s.limit

-- From here on: what the calls of a store say to one another. No public promise cites it.

-- nodes may have come, and what is held is as before
pub record Extends (old new : Store) : Type 0 where
  pub grows : Grows old.nodes new.nodes
  pub keeps : Keeps (holding_in old) (holding_in new)
  pub variables : new.variables ≡ old.variables
  pub limit : new.limit ≡ old.limit
