use Rattle.std.proofs.Common.{◌≡◌, map, take}
use Rattle.eqc_netlist.specs.Evaluating.{values_of}
use Rattle.eqc_netlist.proofs.evaluation.read.Given as goal

abbrev pub invariant-loop-k : goal.invariant-loop-k
invariant-loop-k l = l.read.items ≡ map (values_of l.values) (take l.k l.signals)
