use Rattle.eqc_witness.specs.Cones.{AreValues, values_at}
use Rattle.eqc_witness.proofs.cone.Cone.is_true.Given as goal

abbrev pub invariant-loop-k : goal.invariant-loop-k
invariant-loop-k l = AreValues l.self.graph (values_at l.values) l.known.items l.k
