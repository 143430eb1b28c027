-- For proofs alone: a copy of nodes of the forest in a store of one thread. No public promise cites
-- it.
use Rattle.std.specs.Prelude.{◌≡◌, ℕ, ◌+◌, ◌-◌, ◌*◌, ◌^◌, ◌<◌, ◌≤◌, ◌⊎◌, Bool, List, [], ◌∷◌}
use Rattle.std.specs.Prelude.{length, Option, None, Some, slice_index_or, sum_by}
use Rattle.std.specs.List.{All}
use Rattle.eqc_tree.specs.Tree.{value}
use Rattle.eqc_plain.specs.Store.{root, tree_at}
use Rattle.eqc_plain.specs.Combining.{AreHalves}
use Rattle.eqc_plain.specs.declared.store.Store.{Store}
use Rattle.eqc_guard.specs.Known.{IsHeld, tree_of}
use Rattle.eqc_apply.specs.declared.held.Held.{Held}
use Rattle.eqc_apply.specs.declared.plain_copy.PlainCopy.{PlainCopy}
use Rattle.eqc_apply.specs.declared.plain_copy.Visit.{Visit}
use Rattle.eqc_apply.specs.declared.plain_copy.Visit.TheVariants.{Reached, Opened}
use Rattle.eqc_apply.specs.Meaning.{meaning_in}

-- the number m of a store has the function of the name x, and starts no higher
pub record IsCopyOf (n : Held) (s : Store) (x m : ℕ) : Type 0 where
  pub held : IsHeld n.worker.known.core x
  pub within : m < length s.nodes + 2
  pub starts : root n.variables (tree_of n.worker.known x) ≤ root s.variables (tree_at s.nodes m)
  pub function : (a : ℕ → Bool) → value (tree_at s.nodes m) a ≡ value (tree_of n.worker.known x) a

abbrev pub name_of : Visit → ℕ
name_of (Reached x) = x
name_of (Opened x v low high) = x

-- v is the variable of a node that is held, whose children are low and high
pub record IsNodeOver (n : Held) (x v low high : ℕ) : Type 0 where
  pub held : IsHeld n.worker.known.core x
  pub top : v ≡ root n.variables (tree_of n.worker.known x)
  pub below : v < n.variables
  pub halves : AreHalves (meaning_in n) v x low high

-- what is visited is held
abbrev pub IsDue : Held → Visit → Type 0
IsDue n (Reached x) = IsHeld n.worker.known.core x
IsDue n (Opened x v low high) = IsNodeOver n x v low high

-- a name is copied
abbrev pub IsPlaced : List (Option ℕ) → ℕ → Type 0
IsPlaced places x = (m : ℕ) × (slice_index_or places x None ≡ Some m)

-- a name is among those that are visited
abbrev pub Comes : ℕ → List Visit → Type 0
Comes x [] = ⊥
Comes x (v ∷ vs) = (name_of v ≡ x) ⊎ Comes x vs

-- a name is copied, or is going to be
abbrev pub IsComing : List (Option ℕ) → List Visit → ℕ → Type 0
IsComing places vs x = IsPlaced places x ⊎ Comes x vs

-- the children of each node that is opened are copied, or stand behind it
abbrev pub AreInOrder : List (Option ℕ) → List Visit → Type 0
AreInOrder places [] = Unit {0}
AreInOrder places (Reached x ∷ vs) = AreInOrder places vs
AreInOrder places (Opened x v low high ∷ vs) = IsComing places vs low × IsComing places vs high
    × AreInOrder places vs

-- what a name without a number counts
abbrev pub free : Option ℕ → ℕ
free None = 1
free (Some m) = 0

-- each number that is noted is its name's, and the store has room for a node for each name without
-- one
pub record IsFaithful (n : Held) (c : PlainCopy) : Type 0 where
  pub variables : c.store.variables ≡ n.variables
  pub size : length c.places.items ≡ n.worker.known.core.sizes.names
  pub constants : (x : ℕ) → x < 2 → slice_index_or c.places.items x None ≡ Some x
  pub room : length c.store.nodes + sum_by free c.places.items ≤ c.store.limit
  pub placed : (x m : ℕ) → slice_index_or c.places.items x None ≡ Some m → IsCopyOf n c.store x m

-- a copy that is faithful so far, with these visits to come
pub record IsOnWay (n : Held) (c : PlainCopy) (vs : List Visit) : Type 0 where
  pub faithful : IsFaithful n c
  pub due : All (IsDue n) vs
  pub order : AreInOrder c.places.items vs

-- a bound on the steps that a visit leads to: those of a full tree of the variables below
abbrev pub toil_of : Held → Visit → ℕ
toil_of n (Reached x) = 4 * 2 ^ (n.variables - root n.variables (tree_of n.worker.known x)) - 2
toil_of n (Opened x v low high) = 1

abbrev pub toil : Held → List Visit → ℕ
toil n vs = sum_by (toil_of n) vs

-- one step of a copy with these visits to come: what was to be copied still is, and fewer steps are
-- left
pub record IsAdvance (n : Held) (c : PlainCopy) (vs : List Visit) (m : Held) (d : PlainCopy) : Type
    0 where
  pub way : IsOnWay m d d.visits.items
  pub coming : (x : ℕ) → IsComing c.places.items vs x → IsComing d.places.items d.visits.items x
  pub less : toil m d.visits.items < toil n vs
