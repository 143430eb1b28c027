use Rattle.eqc_core.specs.View.{view_at}
use Rattle.eqc_core.proofs.Rooms.{tree_stays}
use Rattle.eqc_core.proofs.Runs.{active_there}
use Rattle.eqc_core.proofs.laws.steps_keep_trees.Goals as goal

pub returns : goal.returns
returns c = λ s e x t law allowed before now is. tree_stays s e.worker x (view_at s.views e.worker)
    e.step t law (active_there s.views e.worker allowed.active) allowed.may before is
