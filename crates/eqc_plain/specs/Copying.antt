-- For proofs alone: a copy of the nodes below a number. No public promise cites it.
use Rattle.std.specs.Prelude.{◌≡◌, ℕ, ◌+◌, ◌-◌, ◌<◌, ◌≤◌, ◌⊎◌, Bool, true, List, length}
use Rattle.std.specs.Prelude.{slice_index, nat_eq}
use Rattle.std.specs.List.{list_any}
use Rattle.eqc_tree.specs.Tree.{value}
use Rattle.eqc_plain.specs.Store.{tree_at, root, low_of, high_of}
use Rattle.eqc_plain.specs.declared.store.Store.{Store}
use Rattle.eqc_plain.specs.declared.diagram.Diagram.{Diagram}

-- a number is among xs
abbrev pub Has : List ℕ → ℕ → Type 0
Has xs x = list_any (nat_eq x) xs ≡ true

-- x came in, and all others stay where they are
pub record Takes (old new : List ℕ) (x : ℕ) : Type 0 where
  pub here : Has new x
  pub grows : (q : ℕ) → Has old q → Has new q
  pub only : (q : ℕ) → Has new q → Has old q ⊎ (q ≡ x)
  pub longer : length old ≤ length new
  pub stays : (k : ℕ) → k < length old → slice_index new k ≡ slice_index old k

-- the children of node x are among xs
pub record HasChildren (ws xs : List ℕ) (x : ℕ) : Type 0 where
  pub low : Has xs (low_of (slice_index ws (x - 2)))
  pub high : Has xs (high_of (slice_index ws (x - 2)))

-- the children of x came in, where it is a node, and all others stay where they are
pub record Follows (ws old new : List ℕ) (x : ℕ) : Type 0 where
  pub children : 2 ≤ x → HasChildren ws new x
  pub grows : (q : ℕ) → Has old q → Has new q
  pub only : (q : ℕ) → Has new q → Has old q ⊎ (q < length ws + 2)
  pub longer : length old ≤ length new
  pub stays : (k : ℕ) → k < length old → slice_index new k ≡ slice_index old k

-- the constants, and nodes with all below them, in ascending order
pub record AreReached (ws xs : List ℕ) : Type 0 where
  pub zero : Has xs 0
  pub one : Has xs 1
  pub within : (x : ℕ) → Has xs x → x < length ws + 2
  pub children : (x : ℕ) → Has xs x → 2 ≤ x → HasChildren ws xs x
  pub few : length xs ≤ length ws + 2
  pub ascend : (i j : ℕ) → i ≤ j → j < length xs → slice_index xs i ≤ slice_index xs j

-- the number m of the store c has the function of x in s, and starts no higher
pub record IsCopyOf (s c : Store) (x m : ℕ) : Type 0 where
  pub within : m < length c.nodes + 2
  pub starts : root s.variables (tree_at s.nodes x) ≤ root c.variables (tree_at c.nodes m)
  pub function : (a : ℕ → Bool) → value (tree_at c.nodes m) a ≡ value (tree_at s.nodes x) a

-- ms are the numbers in c of the first of xs, each constant being itself, and c has no node for a
-- constant
pub record IsCopying (s : Store) (xs ms : List ℕ) (c : Store) : Type 0 where
  pub variables : c.variables ≡ s.variables
  pub limit : c.limit ≡ s.limit
  pub few : length c.nodes ≤ length ms - 2
  pub copied : (k : ℕ) → k < length ms → IsCopyOf s c (slice_index xs k) (slice_index ms k)

-- a store with the function of x in s, at its top
pub record IsDiagramOf (s : Store) (x : ℕ) (d : Diagram) : Type 0 where
  pub variables : d.store.variables ≡ s.variables
  pub copy : IsCopyOf s d.store x d.top
