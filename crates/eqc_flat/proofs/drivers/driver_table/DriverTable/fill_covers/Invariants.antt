use Rattle.std.proofs.Common.{◌≡◌, ◌++◌, map, take, length, List}
use Rattle.eqc_hierarchy.specs.Signals.{Driving, cover_driving}
use Rattle.eqc_flat.specs.Flattened.{path_at, model_of}
use Rattle.eqc_flat.specs.DriverTable.{IsTable}
use Rattle.eqc_flat.proofs.drivers.driver_table.DriverTable.fill_covers.Given as goal

abbrev pub invariant-loop-k : goal.invariant-loop-k
invariant-loop-k l = record {
  size : length l.self.0 ≡ length l.fn.self.0;
  step : (done : List Driving) → IsTable l.hierarchy.0 l.hierarchy.1 l.fn.self.0 l.fn.self.1 done
      → IsTable l.hierarchy.0 l.hierarchy.1 l.self.0 l.self.1
      (done
      ++ take l.k
      (map (cover_driving (path_at l.hierarchy.0 l.hierarchy.1 l.i)) (model_of l.hierarchy.0
      l.hierarchy.1 l.i).covers));
}
