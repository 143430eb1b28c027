use Rattle.std.proofs.Common.{◌≡◌, ◌<◌, [], length, true, ℕ}
use Rattle.eqc_netlist.specs.Dependency.{among}
use Rattle.eqc_hierarchy.specs.Searching.{IsSearch}
use Rattle.eqc_netlist.specs.Drivers.{signal_deps}
use Rattle.eqc_flat.proofs.signal_order.search_all.Given as goal

abbrev pub invariant-loop-s : goal.invariant-loop-s
invariant-loop-s l = record {
  searching : IsSearch (signal_deps l.drivers) (length l.drivers) l.search.stages.items []
      l.search.order.items;
  placed : (t : ℕ) → t < l.s → among l.search.order.items t ≡ true;
}
