-- What a forest tells when the applier that is left closes it.
use Rattle.std.specs.Prelude.{◌≡◌, ℕ, ◌<◌, ◌≤◌, ◌↔◌}
use Rattle.eqc_tree.specs.Holding.{Entry, IsHeld}
use Rattle.eqc_core.specs.Words.{times}
use Rattle.eqc_guard.specs.Known.{Known, tree_of}
use Rattle.eqc_guard.specs.Closing.{IsTallied}
use Rattle.eqc_apply.specs.declared.held.Held.{Held}
use Rattle.eqc_apply.specs.Extending.{holding_in}

-- so many slots have a count above 0 in the last state of the forest, in which nobody else is
-- active and the worker holds each node on which a reference stands, once, and no other
pub record IsTold (counted : ℕ) (n : Held) : Type 0 where
  pub last : Known
  pub sizes : last.core.sizes ≡ n.worker.known.core.sizes
  pub once : (x : ℕ) → times x last.core.held ≤ 1
  pub holds : (e : Entry) → 2 ≤ e.number
      → IsHeld (holding_in n) e ↔ ((0 < times e.number last.core.held)
      × (tree_of last e.number ≡ e.tree))
  pub tallied : IsTallied counted last

-- From here on: what the calls say to one another. No public promise cites it.

-- so many in the last state of a worker that knew this, and that holds what it held
pub record IsLeft (counted : ℕ) (k : Known) : Type 0 where
  pub last : Known
  pub sizes : last.core.sizes ≡ k.core.sizes
  pub names : (x : ℕ) → times x last.core.held ≡ times x k.core.held
  pub tree : (x : ℕ) → 0 < times x k.core.held → tree_of last x ≡ tree_of k x
  pub tallied : IsTallied counted last
