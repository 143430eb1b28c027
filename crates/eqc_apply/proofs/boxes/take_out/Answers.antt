use Rattle.eqc_apply.proofs.Handing.{own_comes}
use Rattle.std.proofs.Common.{◌≡◌, None}
use Rattle.eqc_arena.proofs.Unboxing.{came_went}
use Rattle.eqc_apply.proofs.boxes.take_out.Goals as goal

pub returns-in-Done-clause-done : goal.returns-in-Done-clause-done
returns-in-Done-clause-done g c =
    let e = c.in-Done.ensures in
    own_comes c.args.op c.args.f c.args.g c.in-Done.filled c.args.worker.now c.wait_for.new.worker
    c.own_result.new.worker c.own_result.result
    e.came e.right c.requires.f c.requires.g c.own_result.ensures.some

pub returns-in-Done-clause-undone : goal.returns-in-Done-clause-undone
returns-in-Done-clause-undone g c = λ e. let none : c.own_result.result ≡ None = cc in
    came_went c.in-Done.ensures.came (c.own_result.ensures.none none)

pub returns-in-Ok-clause-undone : goal.returns-in-Ok-clause-undone
returns-in-Ok-clause-undone g c = λ e. came_went c.in-Stopped.ensures.came c.own_stop.ensures.gone

pub returns-in-Err-clause-stop : goal.returns-in-Err-clause-stop
returns-in-Err-clause-stop g c = (
  came_went c.in-Stopped.ensures.came c.own_stop.ensures.gone,
  c.in-Err.ensures.stop,
)

pub returns-in-Task-clause-undone : goal.returns-in-Task-clause-undone
returns-in-Task-clause-undone g c = λ e. came_went c.in-Task.ensures.came
    c.give_parcel.ensures.changes
