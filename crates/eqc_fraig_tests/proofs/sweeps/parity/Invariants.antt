use Rattle.eqc_xag.specs.Graph.{IsWithin, Extends}
use Rattle.eqc_fraig_tests.proofs.sweeps.parity.Given as goal

abbrev pub invariant-loop-variable : goal.invariant-loop-variable
invariant-loop-variable l = Extends l.fn.sweep l.sweep × IsWithin l.sweep l.sum
