use Rattle.eqc_compare.proofs.AlikeLaws.{AreMet}
use Rattle.eqc_compare.proofs.alike.first_of_class.Given as goal

abbrev pub invariant-loop-k : goal.invariant-loop-k
invariant-loop-k l = AreMet l.row l.firsts.items l.places.items l.count l.k
