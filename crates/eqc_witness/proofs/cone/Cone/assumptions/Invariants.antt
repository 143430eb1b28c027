use Rattle.eqc_witness.proofs.ConeLemmas.{AreAssumed}
use Rattle.eqc_witness.proofs.cone.Cone.assumptions.Given as goal

abbrev pub invariant-loop-position : goal.invariant-loop-position
invariant-loop-position l = AreAssumed l.self.graph l.self.root l.first l.position l.literals.items
