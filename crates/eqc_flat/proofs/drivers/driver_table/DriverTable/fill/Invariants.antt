use Rattle.std.proofs.Common.{◌≡◌, ◌++◌, take, length, List}
use Rattle.std.specs.List.{flat_map, enumerate_from}
use Rattle.eqc_hierarchy.specs.Hierarchy.{model, paths}
use Rattle.eqc_hierarchy.specs.Signals.{Driving, input_drivings, drivings_at}
use Rattle.eqc_flat.specs.Instances.{first_below}
use Rattle.eqc_flat.specs.DriverTable.{IsTable}
use Rattle.eqc_flat.proofs.drivers.driver_table.DriverTable.fill.Given as goal

abbrev pub invariant-loop-i : goal.invariant-loop-i
invariant-loop-i l = record {
  size : length l.self.0 ≡ length l.fn.self.0;
  first : l.first ≡ first_below l.hierarchy.0 l.hierarchy.1 l.i;
  step : (done : List Driving) → IsTable l.hierarchy.0 l.hierarchy.1 l.fn.self.0 l.fn.self.1 done
      → IsTable l.hierarchy.0 l.hierarchy.1 l.self.0 l.self.1
      (done
      ++ (input_drivings (enumerate_from 0 (model l.hierarchy.0 l.hierarchy.1).inputs)
      ++ flat_map (drivings_at l.hierarchy.0 l.hierarchy.1)
      (take l.i (paths l.hierarchy.0 l.hierarchy.1))));
}
