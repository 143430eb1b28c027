use Rattle.std.proofs.Common.{◌<◌, List, length, get_or, ap, sym, subst, ◌∙◌, arith}
use Rattle.eqc_core.specs.declared.phase.Phase.{Phase}
use Rattle.eqc_core.specs.declared.phase.Phase.TheVariants.{Idle}
use Rattle.eqc_guard.specs.Standing.{Standing}
use Rattle.eqc_guard.proofs.Counts.{announced_there}
use Rattle.eqc_guard.proofs.worker.Worker.recheck.Goals as goal

pub look_again-found-requires-clause-there : goal.look_again-found-requires-clause-there
look_again-found-requires-clause-there c =
    let is = c.self.invariant in
    let mine = subst (λ (s : Standing). c.args.k < s.known.core.sizes.announcements)
    (sym c.self.view_is) c.requires.1 in
    let each = is.worker.known.each in
    let phase = ap (λ (ps : List Phase). get_or ps c.args.k Idle) is.phases_are
    ∙ sym c.phase_of-phase.ensures in
    let a =
    announced_there c.self.inside.seat.me.0 c.args.k c.phase_of-phase.result c.in-Announced.cell
    c.in-Announced.seen is.worker.known
    (omega arith) phase c.in-Announced.is in
    subst (λ (s : Standing). c.in-Announced.cell < s.known.core.sizes.cells) c.self.view_is a.1

pub phase_of-phase-requires : goal.phase_of-phase-requires
phase_of-phase-requires c =
    let is = c.self.invariant in
    let mine = subst (λ (s : Standing). c.args.k < s.known.core.sizes.announcements)
    (sym c.self.view_is) c.requires.1 in
    let each = is.worker.known.each in
    let long = ap length is.phases_are in
    omega arith
