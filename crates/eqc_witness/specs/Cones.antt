-- Graphs whose variables are the positions of a list: copies of what lies below a literal.
use Rattle.std.specs.Prelude.{◌≡◌, ℕ, ◌+◌, ◌*◌, ◌/◌, ◌<◌, Bool, false, not, List, ◌++◌, length}
use Rattle.std.specs.Prelude.{slice_index_or}
use Rattle.std.specs.List.{list_any}
use Rattle.eqc_xag.specs.declared.node.Node.{Node}
use Rattle.eqc_xag.specs.Graph.{literal_value, IsWithin, value_among}
use Rattle.eqc_witness.specs.Witnesses.{is_true_under}

-- the values of positions, false behind the last
abbrev pub values_at : List Bool → ℕ → Bool
values_at values i = slice_index_or values i false

-- whether a literal is true under values of the positions
abbrev pub holds_under : List Node → ℕ → List Bool → Bool
holds_under nodes l values = literal_value nodes (values_at values) l

-- the first nodes behind the constant are the inputs of n positions
pub record HasInputs (nodes : List Node) (n : ℕ) : Type 0 where
  pub within : n < length nodes
  pub value : (i : ℕ) (a : ℕ → Bool) → i < n → literal_value nodes a (2 * i + 2) ≡ a i

-- literal y of the new nodes says of positions what literal x of the old ones says of their
-- variables
pub record IsCopy (old new : List Node) (variables : List ℕ) (x y : ℕ) : Type 0 where
  pub within : IsWithin new y
  pub value : (values : List Bool) → length values ≡ length variables → holds_under new y values
      ≡ is_true_under old x variables values

-- a root among nodes that begin with the inputs of n positions
pub record IsCone (nodes : List Node) (root n : ℕ) : Type 0 where
  pub inputs : HasInputs nodes n
  pub within : IsWithin nodes root

-- the table has copies of the literals of the first nodes of a row
pub record AreCopies (old new : List Node) (variables row table : List ℕ) : Type 0 where
  pub each : (k : ℕ) → k < length table → IsCopy old new variables (2 * slice_index_or row k 0)
      (slice_index_or table k 0)

-- under values that begin with these, each of these literals is true where the root is
pub record AreAssumptions (nodes : List Node) (root : ℕ) (first : List Bool) (literals : List ℕ) :
    Type 0 where
  pub each : (rest : List Bool)
      → list_any (λ l. not (literal_value nodes (values_at (first ++ rest)) l)) literals
      ≡ not (holds_under nodes root (first ++ rest))

-- the values of the first n nodes
pub record AreValues (nodes : List Node) (a : ℕ → Bool) (known : List Bool) (n : ℕ) : Type 0 where
  pub size : length known ≡ n
  pub each : (l : ℕ) → l / 2 < n → value_among known l ≡ literal_value nodes a l
