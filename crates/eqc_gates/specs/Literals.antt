-- Lists of literals of a graph: a cover's columns, and what a row asks of them.
use Rattle.std.specs.Prelude.{◌≡◌, ℕ, ◌<◌, Bool, List, length, map, slice_index}
use Rattle.std.specs.List.{list_all}
use Rattle.eqc_netlist.specs.Cover.{row_matches}
use Rattle.eqc_xag.specs.declared.node.Node.{Node}
use Rattle.eqc_xag.specs.Graph.{literal_value, IsWithin}

-- each of these literals is one of the graph
pub record AreWithin (nodes : List Node) (literals : List ℕ) : Type 0 where
  pub each : (k : ℕ) → k < length literals → IsWithin nodes (slice_index literals k)

-- in every graph of the columns these literals are all true exactly where the row matches
pub record AreAskedFor (columns row literals : List ℕ) : Type 0 where
  pub within : (nodes : List Node) → AreWithin nodes columns → AreWithin nodes literals
  pub value : (nodes : List Node) (a : ℕ → Bool) → list_all (literal_value nodes a) literals
      ≡ row_matches row (map (literal_value nodes a) columns)
