use Rattle.std.proofs.Common.{◌≡◌, ◌<◌, map, take, length, slice_index_or, ℕ}
use Rattle.eqc_hierarchy.specs.Signals.{signals}
use Rattle.eqc_flat.specs.Flattened.{signals_here, signal_at}
use Rattle.eqc_flat.proofs.drivers.driver_table.signals_of.Given as goal

abbrev pub invariant-loop-j : goal.invariant-loop-j
invariant-loop-j l = record {
  made : map (signal_at l.hierarchy.0 l.hierarchy.1) l.all.items ≡ signals_here l.hierarchy.0
      l.hierarchy.1 l.i (take l.j l.names);
  within : (k : ℕ) → k < length l.all.items → slice_index_or l.all.items k 0
      < length (signals l.hierarchy.0 l.hierarchy.1);
}
