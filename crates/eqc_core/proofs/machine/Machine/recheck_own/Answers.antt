use Rattle.std.proofs.Common.{◌≡◌, sym, subst, arith, ap, ◌∙◌}
use mathlib.Core.Option.{some}
use lib.ListN.{get_elem?}
use Rattle.eqc_core.specs.declared.phase.Phase.TheVariants.{Idle}
use Rattle.eqc_core.specs.View.{View, phase_at}
use Rattle.eqc_core.specs.Lawful.{Fits}
use Rattle.eqc_core.specs.Announcing.{IsAnnounced, announced_cell}
use Rattle.eqc_core.specs.Machine.{state_of, words_of, active_view}
use Rattle.eqc_core.proofs.Lists.{get_at}
use Rattle.eqc_core.proofs.Stored.{turn_view, turn_fits, word_below, phases_there}
use Rattle.eqc_core.proofs.Taking.{named_cell}
use Rattle.eqc_core.proofs.machine.Machine.recheck_own.Goals as goal

pub recheck-requires-clause-word : goal.recheck-requires-clause-word
recheck-requires-clause-word c = word_below c.args.self.now c.args.id c.args.k c.requires.turn
    c.requires.may.1

pub recheck-requires-clause-cell : goal.recheck-requires-clause-cell
recheck-requires-clause-cell c =
    let m = c.args.self.now in
    let is = turn_view m c.args.id c.index.result.now c.requires.turn c.index.ensures in
    c.in-Some.ensures.cell ∙ (ap announced_cell c.phase_at-phase.ensures
    ∙ ap (λ (v : View). announced_cell (phase_at v c.args.k)) (sym is))

pub recheck-requires-clause-there : goal.recheck-requires-clause-there
recheck-requires-clause-there c =
    let m = c.args.self.now in
    let k = c.args.k in
    let w = c.index.result.now in
    let p = phase_at (active_view m.sizes w) k in
    let is = turn_view m c.args.id w c.requires.turn c.index.ensures in
    let fits = subst (λ (v : View). Fits m.sizes (words_of m) (state_of m).views c.args.id v) is
    (turn_fits m c.args.id c.requires.turn) in
    let announced = subst (λ (v : View). IsAnnounced (phase_at v k)) is c.requires.may.2 in
    let lt = word_below m c.args.id k c.requires.turn c.requires.may.1 in
    let long = phases_there m c.args.id w c.requires.turn c.index.ensures in
    let here : get_elem? w.phases.items k ≡ some p = get_at w.phases.items k Idle (omega arith) in
    let small = named_cell m.sizes p (fits.named k p here) announced in
    let cell = c.in-Some.ensures.cell ∙ ap announced_cell c.phase_at-phase.ensures in
    omega arith
