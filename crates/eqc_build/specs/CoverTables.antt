-- Truth tables of some covers of the netlists of a pair, each by the number that its rows have in
-- its netlist.
use Rattle.std.specs.Prelude.{◌≡◌, ℕ, ◌≤◌, List, [], nat_eq, Some, slice_index_or}
use Rattle.std.specs.Map.{lookup}
use Rattle.eqc_netlist.specs.Cover.{cover_value}
use Rattle.eqc_cover.specs.Table.{Tabulates}
use Rattle.eqc_netlist.specs.Graph.{FlatOf}
use Rattle.eqc_pair.specs.PairOf.{PairOf, assumed}
use Rattle.eqc_build.specs.declared.cover_tables.CoverTable.{CoverTable}
use Rattle.eqc_build.specs.declared.cover_tables.PairTables.{PairTables}

-- the table is that of the cover of a netlist with rows of this number
pub record IsTableOf (f : FlatOf) (r : ℕ) (t : CoverTable) : Type 0 where
  pub few : t.columns ≤ 6
  pub value : Tabulates t.table t.columns (cover_value (slice_index_or f.rows r []))

-- each table is that of the cover whose rows have its number
pub record AreTablesOf (f : FlatOf) (tables : List (ℕ × CoverTable)) : Type 0 where
  pub each : (r : ℕ) (t : CoverTable) → lookup (nat_eq r) tables ≡ Some t → IsTableOf f r t

-- the tables of the netlists of a pair
pub record TablesOf : Type 0 where
  pub first : List (ℕ × CoverTable)
  pub second : List (ℕ × CoverTable)
  pub assumed : List (ℕ × CoverTable)

abbrev pub tables_in : PairTables → TablesOf
tables_in t = record {
  first = t.first.entries;
  second = t.second.entries;
  assumed =
      t.assumed.entries;
}

-- each table is that of a cover of its netlist
pub record ArePairTables (p : PairOf) (tables : TablesOf) : Type 0 where
  pub first : AreTablesOf p.first tables.first
  pub second : AreTablesOf p.second tables.second
  pub assumed : AreTablesOf (assumed p) tables.assumed
