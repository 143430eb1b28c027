-- What a worker's names have to do with those that it had before.
use Rattle.std.specs.Prelude.{◌≡◌, ℕ}
use Rattle.eqc_core.specs.View.{View}
use Rattle.eqc_guard.specs.Known.{Known, IsHeld, tree_of}
use Rattle.eqc_guard.specs.Standing.{Standing}

-- each name that was held is held, with its tree
pub record IsBefore (old new : Known) : Type 0 where
  pub held : (x : ℕ) → IsHeld old.core x → IsHeld new.core x
  pub tree : (x : ℕ) → IsHeld old.core x → tree_of new x ≡ tree_of old x

-- the worker is who it was, and the same numbers are out
pub record IsSeat (old new : View) : Type 0 where
  pub sizes : new.sizes ≡ old.sizes
  pub number : new.number ≡ old.number
  pub out : new.out ≡ old.out

-- it is of the same forest, too
pub record IsWorker (old new : Standing) : Type 0 where
  pub forest : new.forest ≡ old.forest
  pub seat : IsSeat old.known.core new.known.core
