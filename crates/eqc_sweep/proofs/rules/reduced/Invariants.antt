use Rattle.eqc_sweep.specs.declared.reduced.Reduced.TheVariants.{Absent}
use Rattle.eqc_sweep.specs.Reducing.{StandsFor}
use Rattle.eqc_sweep.proofs.rules.reduced.Given as goal

abbrev pub invariant-rules : goal.invariant-rules
invariant-rules l = StandsFor l.graph l.fn.gate (Absent l.node)
