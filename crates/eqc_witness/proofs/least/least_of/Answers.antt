use Rattle.eqc_witness.specs.Cones.{holds_under}
use Rattle.eqc_witness.proofs.BeginningLemmas.{none_passes}
use Rattle.eqc_witness.proofs.least.least_of.Goals as goal

pub returns-in-Nothing : goal.returns-in-Nothing
returns-in-Nothing c =
    let cone = c.args.cone.now in
    none_passes cone.positions (holds_under cone.graph cone.root) (rw c.in-Nothing.is at
    c.in_ok-values.ensures.found)
