use Rattle.eqc_sweep.proofs.CopyingLemmas.{IsEntering}
use Rattle.eqc_sweep.proofs.copying.enter_again.Given as goal

abbrev pub invariant-loop-k : goal.invariant-loop-k
invariant-loop-k l = IsEntering l.graph l.fn.sweep l.sweep l.table.items
