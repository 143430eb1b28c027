-- For proofs alone: an operation that changed hands. No public promise cites it.
use Rattle.std.specs.Prelude.{◌≡◌, ℕ, [], ◌∷◌, Bool}
use Rattle.eqc_tree.specs.Tree.{value}
use Rattle.eqc_tree.specs.Operation.{operate}
use Rattle.eqc_tree.specs.declared.operation.Op.{Op}
use Rattle.eqc_core.specs.Words.{slots_of}
use Rattle.eqc_guard.specs.Known.{tree_of}
use Rattle.eqc_guard.specs.Standing.{Standing}
use Rattle.eqc_guard.specs.declared.filled.Filled.{Filled}
use Rattle.eqc_guard.specs.declared.parcel.Parcel.{Parcel}
use Rattle.eqc_guard.specs.Sharing.{IsGenuine, IsWhole, parcel_names}
use Rattle.eqc_arena.specs.Changing.{Exchanges}
use Rattle.eqc_arena.specs.Unboxing.{KeepsMarks, NotesStop}

-- a parcel came out of a box: its names are held, and what it tells is so
pub record ComesOut (parcel : Parcel) (old new : Standing) : Type 0 where
  pub came : Exchanges [] (parcel_names parcel) old new
  pub right : IsGenuine new.known parcel
  pub marks : KeepsMarks old.known.core new.known.core
  pub noted : NotesStop parcel new.known.core
  pub whole : IsWhole parcel

-- these are the operation and its operands, which were given back, and r is the result
pub record IsOwn (op : Op) (f g : ℕ) (filled : Filled) (r : ℕ) (old new : Standing) : Type 0 where
  pub op_is : filled.op ≡ op
  pub first : filled.f.number ≡ f
  pub second : filled.g.number ≡ g
  pub result : r ≡ filled.r.number
  pub gone : Exchanges (slots_of (f ∷ g ∷ [])) [] old new

-- the operation's result came, and is held once more
pub record HasCome (op : Op) (f g r : ℕ) (old new : Standing) : Type 0 where
  pub came : Exchanges [] (slots_of (r ∷ [])) old new
  pub function : (a : ℕ → Bool) → operate op (value (tree_of old.known f) a)
      (value (tree_of old.known g) a) ≡ value (tree_of new.known r) a
