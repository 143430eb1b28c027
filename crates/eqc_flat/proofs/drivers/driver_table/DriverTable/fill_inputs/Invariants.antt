use Rattle.std.proofs.Common.{◌≡◌, ◌++◌, take, length, List}
use Rattle.std.specs.List.{enumerate_from}
use Rattle.eqc_hierarchy.specs.Hierarchy.{model}
use Rattle.eqc_hierarchy.specs.Signals.{Driving, input_drivings}
use Rattle.eqc_flat.specs.DriverTable.{IsTable}
use Rattle.eqc_flat.proofs.drivers.driver_table.DriverTable.fill_inputs.Given as goal

abbrev pub invariant-loop-k : goal.invariant-loop-k
invariant-loop-k l = record {
  size : length l.self.0 ≡ length l.fn.self.0;
  step : (done : List Driving) → IsTable l.hierarchy.0 l.hierarchy.1 l.fn.self.0 l.fn.self.1 done
      → IsTable l.hierarchy.0 l.hierarchy.1 l.self.0 l.self.1
      (done ++ take l.k (input_drivings
      (enumerate_from 0 (model l.hierarchy.0 l.hierarchy.1).inputs)));
}
