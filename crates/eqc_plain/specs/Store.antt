-- The tree that each number stands for (Bryant 1986, section 2: a node is a variable and two
-- children), and what a store holds.
use Rattle.std.specs.Prelude.{◌≡◌, ◌≢◌, ℕ, ◌<◌, ◌≤◌, ◌+◌, ◌-◌, ◌^◌, Bool, List, [], ◌∷◌, ◌++◌}
use Rattle.std.specs.Prelude.{length, replicate, slice_index, slice_index_or, if◌then◌else◌}
use Rattle.eqc_tree.specs.Word.{node_word, node_variable, node_low, node_high}
use Rattle.eqc_tree.specs.Tree.{Tree, False, True, Node, value}
use Rattle.eqc_tree.specs.Holding.{Entry, Holding}

-- the variable in a node's word
unfoldable pub variable_of : ℕ → ℕ
variable_of w = node_variable w

-- the low child in a node's word
unfoldable pub low_of : ℕ → ℕ
low_of w = node_low w

-- the high child in a node's word
unfoldable pub high_of : ℕ → ℕ
high_of w = node_high w

-- the tree of a node's word, over the trees that stand before it
abbrev pub planted : List Tree → ℕ → Tree
planted ts w = Node (variable_of w) (slice_index_or ts (low_of w) False)
    (slice_index_or ts (high_of w) False)

-- the trees ts and those of the words, in order
abbrev pub grown : List Tree → List ℕ → List Tree
grown ts [] = ts
grown ts (w ∷ ws) = grown (ts ++ planted ts w ∷ []) ws

-- the tree of each number: the constants, and then the nodes
unfoldable pub trees : List ℕ → List Tree
trees ws = grown (False ∷ True ∷ []) ws

-- the tree of number x
abbrev pub tree_at : List ℕ → ℕ → Tree
tree_at ws x = slice_index_or (trees ws) x False

-- words came on top
abbrev pub Grows : List ℕ → List ℕ → Type 0
Grows old new = (more : List ℕ) × (old ++ more ≡ new)

-- each number as often as it is counted, with its tree
abbrev pub listed : ℕ → List Tree → List ℕ → List Entry
listed i [] counts = []
listed i (t ∷ ts) [] = []
listed i (t ∷ ts) (c ∷ counts) = replicate c (record { number = i; tree = t })
    ++ listed (i + 1) ts counts

-- what a store holds
unfoldable pub holding_of : ℕ → List ℕ → List ℕ → Holding
holding_of variables ws counts = record { variables = variables; held = listed 0 (trees ws) counts }

-- a reference to number x over these words
abbrev pub entry_at : List ℕ → ℕ → Entry
entry_at ws x = record { number = x; tree = tree_at ws x }

-- From here on: the order in which a store keeps its words, and what its calls say of them to one
-- another. No public promise cites it.

-- the variable of a tree's root, or n for a constant
abbrev pub root : ℕ → Tree → ℕ
root n False = n
root n True = n
root n (Node v low high) = v

-- the word w, in slot k, is that of a node above its children, which differ
pub record HasShape (variables : ℕ) (ws : List ℕ) (k w : ℕ) : Type 0 where
  pub low : low_of w < k + 2
  pub high : high_of w < k + 2
  pub differ : low_of w ≢ high_of w
  pub above_low : variable_of w < root variables (tree_at ws (low_of w))
  pub above_high : variable_of w < root variables (tree_at ws (high_of w))
  pub packed : w ≡ node_word (variable_of w) (low_of w) (high_of w)

-- the words are those of nodes, each once, and each number has a count
pub record IsStore (variables limit : ℕ) (ws counts : List ℕ) : Type 0 where
  pub limited : limit < 2 ^ 20 - 1
  pub fits : length ws ≤ limit
  pub counted : length counts ≡ length ws + 2
  pub shape : (k : ℕ) → k < length ws → HasShape variables ws k (slice_index ws k)
  pub once : (i j : ℕ) → i < length ws → j < length ws → slice_index ws i ≡ slice_index ws j → i ≡ j
  pub constants : (k : ℕ) → k < 2 → slice_index counts k ≡ 0

-- x has the function of a node, and its root is no higher than the node
pub record IsNode (variables : ℕ) (ws : List ℕ) (v low high x : ℕ) : Type 0 where
  pub within : x < length ws + 2
  pub root_at : v ≤ root variables (tree_at ws x)
  pub function : (a : ℕ → Bool) → value (tree_at ws x) a
      ≡ (if a v then value (tree_at ws high) a else value (tree_at ws low) a)

-- x is low where v is 0 and high where v is 1, and both start below v
pub record AreCofactors (variables : ℕ) (ws : List ℕ) (v x low high : ℕ) : Type 0 where
  pub low_within : low < length ws + 2
  pub high_within : high < length ws + 2
  pub above_low : v < root variables (tree_at ws low)
  pub above_high : v < root variables (tree_at ws high)
  pub function : (a : ℕ → Bool) → value (tree_at ws x) a
      ≡ (if a v then value (tree_at ws high) a else value (tree_at ws low) a)
