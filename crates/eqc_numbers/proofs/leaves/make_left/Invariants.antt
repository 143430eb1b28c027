use Rattle.eqc_xag.specs.Graph.{Extends}
use Rattle.eqc_numbers.proofs.leaves.make_left.Given as goal

abbrev pub invariant-leaves : goal.invariant-leaves
invariant-leaves l = Extends l.fn.sweep l.sweep
