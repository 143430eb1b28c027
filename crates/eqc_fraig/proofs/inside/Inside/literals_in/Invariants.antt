use Rattle.eqc_sweep.specs.Copying.{AreCopies}
use Rattle.eqc_fraig.proofs.inside.Inside.literals_in.Given as goal

abbrev pub invariant-loop-netlists : goal.invariant-loop-netlists
invariant-loop-netlists g l = AreCopies l.graph l.sweep l.table.items
