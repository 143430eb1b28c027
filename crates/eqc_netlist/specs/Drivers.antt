-- A driver of the code as a driver of the graph, and what signals depend on.
use Rattle.std.specs.Prelude.{ℕ, List, slice_index_or}
use Rattle.eqc_netlist.specs.Graph.{DriverOf, input, tie, cover, dependencies}
use Rattle.eqc_netlist.specs.declared.drivers.driver.Driver.{Driver}
use Rattle.eqc_netlist.specs.declared.drivers.driver.Driver.TheVariants.{Input, Tie, Cover}

abbrev pub driver_of : Driver → DriverOf
driver_of (Input position) = input position
driver_of (Tie other) = tie other
driver_of (Cover columns rows) = cover columns rows

-- what each signal depends on
abbrev pub signal_deps : List DriverOf → ℕ → List ℕ
signal_deps drivers s = dependencies (slice_index_or drivers s (input 0))
