-- The decision tree that a name stands for, and the words that are right (Bryant 1986: a node is a
-- variable and two children).
use Rattle.std.specs.Prelude.{◌≡◌, ℕ, ◌^◌, ◌<◌, ◌≤◌, ◌⊎◌, List, get_or, Bool, ltb, if◌then◌else◌}
use Rattle.eqc_tree.specs.Tree.{Tree, False, True, Node, value}
use Rattle.eqc_tree.specs.Operation.{operate, tag_of}
use Rattle.eqc_tree.specs.declared.operation.Op.{Op}
use Rattle.eqc_core.specs.Words.{variable_of, low_of, high_of, operation_of, first_of, second_of}
use Rattle.eqc_core.specs.Words.{result_of}

-- the tree of a name, as the node words have it
abbrev pub IsTree : List ℕ → Tree → ℕ → Type 0
IsTree nodes False x = x ≡ 0
IsTree nodes True x = x ≡ 1
IsTree nodes (Node v low high) x = (2 ≤ x) × (variable_of (get_or nodes x 0) ≡ v)
    × IsTree nodes low (low_of (get_or nodes x 0)) × IsTree nodes high (high_of (get_or nodes x 0))

-- the variable of a name: a constant's is above all
abbrev pub variable_at : List ℕ → ℕ → ℕ
variable_at nodes x = if ltb x 2 then 2 ^ 16 else variable_of (get_or nodes x 0)

-- a node word in order over these nodes
pub record IsShaped (variables : ℕ) (nodes : List ℕ) (word : ℕ) : Type 0 where
  pub few : variable_of word < variables
  pub above_low : variable_of word < variable_at nodes (low_of word)
  pub above_high : variable_of word < variable_at nodes (high_of word)
  pub differ : low_of word ≡ high_of word → ⊥

-- the word's operation on the functions of its operands gives the function of its result
pub record IsFilled (nodes : List ℕ) (word : ℕ) : Type 0 where
  pub operation : Op
  pub tag : operation_of word ≡ tag_of operation
  pub first : Tree
  pub second : Tree
  pub result : Tree
  pub first_is : IsTree nodes first (first_of word)
  pub second_is : IsTree nodes second (second_of word)
  pub result_is : IsTree nodes result (result_of word)
  pub right : (a : ℕ → Bool) → operate operation (value first a) (value second a) ≡ value result a

-- a cell is empty or right
abbrev pub IsRight : List ℕ → ℕ → Type 0
IsRight nodes word = (word ≡ 0) ⊎ IsFilled nodes word

-- a task has the number of its operation and 4
pub record IsTask (word : ℕ) : Type 0 where
  pub from : 4 < operation_of word
  pub upto : operation_of word < 9
  pub no_result : result_of word ≡ 0

-- a stop is for references, 13, for the node limit, 14, or for memory, 15
pub record IsStop (word : ℕ) : Type 0 where
  pub from : 12 < operation_of word
  pub upto : operation_of word < 16
  pub no_result : result_of word ≡ 0

-- a box is empty, or has a right result, a task or a stop
abbrev pub IsBoxWord : List ℕ → ℕ → Type 0
IsBoxWord nodes word = IsRight nodes word ⊎ (IsTask word ⊎ IsStop word)
