use Rattle.eqc_sweep.proofs.CopyingLemmas.{IsEntering}
use Rattle.eqc_sweep.proofs.copying.copy.Given as goal

abbrev pub invariant-turns : goal.invariant-turns
invariant-turns o l = IsEntering l.graph l.fn.sweep l.sweep l.table.items
