use Rattle.std.proofs.Common.{◌≡◌, ◌++◌, take, map, ℕ, List}
use Rattle.smallvec.specs.SmallVec.{SmallVec}
use Rattle.std.specs.List.{fold, flat_map}
use Rattle.eqc_netlist.specs.NameSets.{with_name}
use Rattle.eqc_hierarchy.specs.Signals.{cover_names}
use Rattle.eqc_hierarchy.specs.Columns.{columns_in}
use Rattle.eqc_hierarchy.proofs.naming.model_names.insert_covers.Given as goal

abbrev pub invariant-covers : goal.invariant-covers
invariant-covers l = record {
  names : l.names ≡ fold with_name l.fn.names (flat_map cover_names (take l.cover-index l.covers));
  columns : (later : List (List ℕ))
      → map (λ (c : SmallVec ℕ). c.items) l.columns.items
      ≡ map (λ (c : SmallVec ℕ). c.items) l.fn.columns.items
      ++ columns_in (fold with_name l.names later) (take l.cover-index l.covers);
}
