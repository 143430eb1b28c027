use Rattle.std.proofs.Common.{◌≡◌, take, ℕ, List}
use Rattle.std.specs.List.{fold}
use Rattle.eqc_netlist.specs.NameSets.{with_name}
use Rattle.eqc_hierarchy.specs.Columns.{places_in}
use Rattle.eqc_hierarchy.proofs.naming.model_names.insert_columns.Given as goal

abbrev pub invariant-columns : goal.invariant-columns
invariant-columns l = record {
  names : l.names ≡ fold with_name l.fn.names (take l.column-index l.columns);
  places : (later : List (List ℕ)) → l.places.items ≡ places_in (fold with_name l.names later)
      (take l.column-index l.columns);
}
