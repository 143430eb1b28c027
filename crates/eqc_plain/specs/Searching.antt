-- For proofs alone: what a search for the least assignment keeps. No public promise cites it.
use Rattle.std.specs.Prelude.{◌≡◌, ◌≢◌, ℕ, ◌<◌, ◌≤◌, ◌+◌, ◌-◌, Bool, true, false, not, ◌||◌, List}
use Rattle.std.specs.Prelude.{Option, None, Some, length, slice_index, slice_index_or}
use Rattle.eqc_tree.specs.Tree.{value}
use Rattle.eqc_plain.specs.declared.store.Store.{Store}
use Rattle.eqc_plain.specs.declared.search.Search.{Search}
use Rattle.eqc_plain.specs.Store.{tree_at, variable_of, low_of, high_of}

-- an assignment gives each variable the value that was chosen for it
abbrev pub Agrees : List (Option Bool) → (ℕ → Bool) → Type 0
Agrees choices a = (v : ℕ) (b : Bool) → slice_index_or choices v None ≡ Some b → a v ≡ b

-- values of variables as an assignment
abbrev pub given : List Bool → ℕ → Bool
given values v = slice_index_or values v false

-- whether a node leads to true: by the chosen child, or by one of both
abbrev pub leads_by : Option Bool → (low high : Bool) → Bool
leads_by None low high = low || high
leads_by (Some true) low high = high
leads_by (Some false) low high = low

-- whether the way to true goes to the high child
abbrev pub rises_by : Option Bool → (low : Bool) → Bool
rises_by None low = not low
rises_by (Some b) low = b

-- a node's fields: those of its word, with smaller numbers below it
pub record IsBranch (variables : ℕ) (ws : List ℕ) (x v low high : ℕ) : Type 0 where
  pub variable : v ≡ variable_of (slice_index ws (x - 2))
  pub low_child : low ≡ low_of (slice_index ws (x - 2))
  pub high_child : high ≡ high_of (slice_index ws (x - 2))
  pub below : v < variables
  pub low_less : low < x
  pub high_less : high < x

-- below n each number is marked by the marks of its children
pub record AreMarked (ws : List ℕ) (choices : List (Option Bool)) (marks : List Bool) (n : ℕ) : Type
    0 where
  pub at_false : slice_index_or marks 0 false ≡ false
  pub at_true : slice_index_or marks 1 false ≡ true
  pub nodes : (x : ℕ) → 2 ≤ x → x < n →
      slice_index_or marks x false
      ≡ leads_by (slice_index_or choices (variable_of (slice_index ws (x - 2))) None)
      (slice_index_or marks (low_of (slice_index ws (x - 2))) false)
      (slice_index_or marks (high_of (slice_index ws (x - 2))) false)

-- a search at number f has its lists' lengths
pub record IsSized (store : Store) (f : ℕ) (search : Search) : Type 0 where
  pub within : f < length store.nodes + 2
  pub some : 1 ≤ f
  pub choices : length search.choices.items ≡ store.variables
  pub marks : length search.marks.items ≡ f + 1
  pub witness : length search.witness.items ≡ store.variables

-- its witness agrees with the choices and makes the function true
pub record IsSearch (store : Store) (f : ℕ) (search : Search) : Type 0 where
  pub sized : IsSized store f search
  pub agrees : Agrees search.choices.items (given search.witness.items)
  pub passes : value (tree_at store.nodes f) (given search.witness.items) ≡ true

-- one variable more has a value
pub record IsChoice (v : ℕ) (b : Bool) (old new : List (Option Bool)) : Type 0 where
  pub here : slice_index_or new v None ≡ Some b
  pub others : (u : ℕ) → u ≢ v → slice_index_or new u None ≡ slice_index_or old u None
