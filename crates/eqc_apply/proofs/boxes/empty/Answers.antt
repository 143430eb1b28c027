use Rattle.eqc_arena.proofs.Unboxing.{came_went}
use Rattle.eqc_apply.proofs.boxes.empty.Goals as goal

pub returns-clause-changes : goal.returns-clause-changes
returns-clause-changes c = came_went c.take_now-parcel.ensures.came c.give_parcel.ensures.changes
