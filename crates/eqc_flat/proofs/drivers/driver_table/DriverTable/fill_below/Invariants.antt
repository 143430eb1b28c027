use Rattle.std.proofs.Common.{◌≡◌, ◌++◌, take, length, List}
use Rattle.std.specs.List.{flat_map, enumerate_from}
use Rattle.eqc_hierarchy.specs.Signals.{Driving, instance_drivings}
use Rattle.eqc_flat.specs.Flattened.{path_at, model_of}
use Rattle.eqc_flat.specs.DriverTable.{IsTable}
use Rattle.eqc_flat.proofs.drivers.driver_table.DriverTable.fill_below.Given as goal

abbrev pub invariant-loop-p : goal.invariant-loop-p
invariant-loop-p l = record {
  size : length l.self.0 ≡ length l.fn.self.0;
  step : (done : List Driving) → IsTable l.hierarchy.0 l.hierarchy.1 l.fn.self.0 l.fn.self.1 done
      → IsTable l.hierarchy.0 l.hierarchy.1 l.self.0 l.self.1
      (done
      ++ flat_map (instance_drivings l.hierarchy.0 l.hierarchy.1 (path_at l.hierarchy.0
      l.hierarchy.1 l.i))
      (take l.p (enumerate_from 0 (model_of l.hierarchy.0 l.hierarchy.1 l.i).instances)));
}
