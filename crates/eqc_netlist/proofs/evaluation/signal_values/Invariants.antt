use Rattle.eqc_netlist.specs.Evaluating.{values_of}
use Rattle.eqc_netlist.specs.Known.{AreKnown}
use Rattle.eqc_netlist.proofs.evaluation.signal_values.Given as goal

abbrev pub invariant-loop-k : goal.invariant-loop-k
invariant-loop-k l = AreKnown l.flat (values_of l.inputs) l.values.items l.k
