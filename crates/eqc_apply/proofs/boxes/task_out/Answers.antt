use Rattle.std.proofs.Common.{[], ◌∷◌, arith}
use Rattle.eqc_guard.specs.declared.parcel.Parcel.TheVariants.{Done, Stopped}
use Rattle.eqc_apply.proofs.Handing.{come_may, come_held}
use Rattle.eqc_arena.proofs.Unboxing.{came_went}
use Rattle.eqc_apply.proofs.boxes.task_out.Goals as goal

pub put-requires : goal.put-requires
put-requires c =
    let e = c.in-Done.filled in
    let t = c.in-Done.ensures.came in
    come_may (e.r.number ∷ e.f.number ∷ e.g.number ∷ []) t c.args.b (Done e) c.requires.ready
    c.requires.there c.requires.few (omega arith)
    (come_held (e.r.number ∷ e.f.number ∷ e.g.number ∷ []) t, c.in-Done.ensures.right)

pub put-requires-in-Stopped : goal.put-requires-in-Stopped
put-requires-in-Stopped c =
    let f = c.in-Stopped.f in
    let g = c.in-Stopped.g in
    let t = c.in-Stopped.ensures.came in
    come_may (f.number ∷ g.number ∷ []) t c.args.b (Stopped c.in-Stopped.stop f g) c.requires.ready
    c.requires.there c.requires.few (omega arith)
    (come_held (f.number ∷ g.number ∷ []) t, c.in-Stopped.ensures.whole.2)

pub returns-in-Done-clause-none : goal.returns-in-Done-clause-none
returns-in-Done-clause-none c = λ e. came_went c.in-Done.ensures.came c.put.ensures.changes

pub returns-in-Stopped-clause-none : goal.returns-in-Stopped-clause-none
returns-in-Stopped-clause-none c = λ e. came_went c.in-Stopped.ensures.came
    c.put-in-Stopped.ensures.changes
