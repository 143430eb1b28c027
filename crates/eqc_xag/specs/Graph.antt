-- The values of nodes and literals under values of the variables, and graphs that go on from
-- others.
use Rattle.std.specs.Prelude.{◌≡◌, ℕ, ◌/◌, ◌%◌, ◌^◌, ◌<◌, ◌≤◌, ◌==◌, Bool, true, false, not, ◌&&◌}
use Rattle.std.specs.Prelude.{if◌then◌else◌, List, [], ◌∷◌, ◌++◌, length, ⊤, slice_index_or}
use Rattle.eqc_xag.specs.declared.node.Node.{Node}
use Rattle.eqc_xag.specs.declared.node.Node.TheVariants.{Constant, Input, And, Xor}

-- whether just one of two is true
abbrev pub differ : Bool → Bool → Bool
differ true y = not y
differ false y = y

-- the value of a literal, where these are the nodes' values: 2 * n is the node n, and 2 * n + 1 its
-- complement
unfoldable pub value_among : List Bool → ℕ → Bool
value_among values l = if l % 2 == 0 then slice_index_or values (l / 2) false else not
    (slice_index_or values (l / 2) false)

-- the value of a node, where these are the values of literals
abbrev pub node_value : (ℕ → Bool) → (ℕ → Bool) → Node → Bool
node_value a value Constant = false
node_value a value (Input v) = a v
node_value a value (And x y) = value x && value y
node_value a value (Xor x y) = differ (value x) (value y)

-- the values of nodes in their order, each from those before it
unfoldable pub values_from : (ℕ → Bool) → List Bool → List Node → List Bool
values_from a values [] = values
values_from a values (n ∷ nodes) = values_from a (values ++ node_value a (value_among values) n
    ∷ []) nodes

-- the value of a literal of a graph
unfoldable pub literal_value : List Node → (ℕ → Bool) → ℕ → Bool
literal_value nodes a l = value_among (values_from a [] nodes) l

-- a literal of one of the nodes
abbrev pub IsWithin : List Node → ℕ → Type 0
IsWithin nodes l = l / 2 < length nodes

-- the literals of which a node is made are of nodes below this number
abbrev pub IsBelow : ℕ → Node → Type 0
IsBelow k Constant = ⊤
IsBelow k (Input v) = ⊤
IsBelow k (And x y) = (x / 2 < k) × (y / 2 < k)
IsBelow k (Xor x y) = (x / 2 < k) × (y / 2 < k)

abbrev pub node_at : List Node → ℕ → Node
node_at nodes k = slice_index_or nodes k Constant

-- what holds of the nodes of every graph
pub record IsGraph (nodes : List Node) : Type 0 where
  pub some : 0 < length nodes
  pub few : length nodes ≤ 2 ^ 30
  pub constant : node_at nodes 0 ≡ Constant
  pub earlier : (k : ℕ) → k < length nodes → IsBelow k (node_at nodes k)

-- each literal of the old graph is one of the new graph, with the same value
pub record Extends (old new : List Node) : Type 0 where
  pub longer : length old ≤ length new
  pub same : (l : ℕ) (a : ℕ → Bool) → IsWithin old l → literal_value new a l ≡ literal_value old a l
