use Rattle.std.proofs.Common.{◌≡◌, map, Option, Some}
use Rattle.eqc_netlist.specs.declared.drivers.stored_driver.StoredDriver.{StoredDriver}
use Rattle.eqc_flat.proofs.drivers.driver_table.taken.Given as goal

abbrev pub invariant-slots : goal.invariant-slots
invariant-slots l = l.yielded ≡ map {B = Option StoredDriver} (λ (driver : StoredDriver). Some
    driver) l.all.items
