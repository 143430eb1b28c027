use Rattle.eqc_sweep.proofs.CopyingLemmas.{IsEntering}
use Rattle.eqc_numbers.proofs.chains.copy_shaped.Given as goal

abbrev pub invariant-nodes : goal.invariant-nodes
invariant-nodes l = IsEntering l.graph l.fn.sweep l.sweep l.table.items
