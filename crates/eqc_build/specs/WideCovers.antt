-- Covers of a netlist as splits, each by the number that its rows have there.
use Rattle.std.specs.Prelude.{◌≡◌, ℕ, List, [], nat_eq, Some, slice_index_or}
use Rattle.std.specs.Map.{lookup}
use Rattle.eqc_cover.specs.Splits.{IsExpansionOf}
use Rattle.eqc_netlist.specs.Graph.{FlatOf}
use Rattle.eqc_build.specs.declared.wide_covers.Met.{Met}
use Rattle.eqc_build.specs.declared.wide_covers.Met.TheVariants.{Once, Left, Split}

-- splits that are kept of a cover with these rows have its value
abbrev pub IsMetOf : List (List ℕ) → Met → Type 0
IsMetOf rows Once = Unit {0}
IsMetOf rows Left = Unit {0}
IsMetOf rows (Split columns expansion) = IsExpansionOf rows columns expansion

-- what is known of each cover is so of the rows that have its number
pub record AreMetOf (f : FlatOf) (met : List (ℕ × Met)) : Type 0 where
  pub each : (r : ℕ) (m : Met) → lookup (nat_eq r) met ≡ Some m
      → IsMetOf (slice_index_or f.rows r []) m
