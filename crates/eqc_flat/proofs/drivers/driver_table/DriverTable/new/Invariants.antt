use Rattle.std.proofs.Common.{◌≡◌, replicate, Option, None}
use Rattle.eqc_netlist.specs.declared.drivers.stored_driver.StoredDriver.{StoredDriver}
use Rattle.eqc_flat.proofs.drivers.driver_table.DriverTable.new.Given as goal

abbrev pub invariant-loop-k : goal.invariant-loop-k
invariant-loop-k l = l.slots.items ≡ replicate {A = Option StoredDriver} l._k None
