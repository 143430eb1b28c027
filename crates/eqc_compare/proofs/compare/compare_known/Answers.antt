use Rattle.std.proofs.Common.{◌≡◌, ◌∙◌, arith, ℕ, List, [], Option, None}
use Rattle.eqc_tree.specs.Holding.{Entry, Holding, Keeps}
use Rattle.eqc_build.specs.Building.{Moves, reference_of}
use Rattle.eqc_build.proofs.KeptLaws.{none_kept, none_moved, moved_kept, nothing_moved}
use Rattle.eqc_compare.proofs.OutcomeLaws.{vacuous_outcome, compared_outcome}
use Rattle.eqc_compare.proofs.compare.compare_known.Goals as goal

-- what comes to be held behind a call that keeps what is held is given back
kept_in_turn : {X : Type 0} (entry : X → Entry) (d0 d1 d2 d3 : Holding) (t0 t1 : List (Option X))
    → Keeps d0 d1
    → ((s : ℕ) → reference_of t0 s ≡ None) → Moves entry d1 t0 d2 t1 → Moves entry d2 t1 d3 []
    → Keeps d0 d3
kept_in_turn entry d0 d1 d2 d3 t0 t1 before none found back =
    let turn = nothing_moved entry d1 d2 d3 t0 t1 (none_moved entry d1 t0 none) found back in
    record {
      variables = turn.variables ∙ before.variables;
      held = λ e. turn.held e
          ∙ before.held e;
    }

pub returns-then-branch-clause-found : goal.returns-then-branch-clause-found
returns-then-branch-clause-found g c = vacuous_outcome c.args.pair.now c.args.every
    c.in_ok-allows_none.field-0 c.in_ok-allows_none.ensures.none c.if-branch.true

pub compare_in_turn-found-requires-clause-kept : goal.compare_in_turn-found-requires-clause-kept
compare_in_turn-found-requires-clause-kept g c =
    rw c.in_ok-schedule.ensures.schedule.pair
    (none_kept g.D.References.entry c.args.pair.now _ c.in_ok-kept.kept.table
    (omega (arith, c.requires.variables, c.allows_none.ensures.kept.variables))
    c.in_ok-kept.ensures.size c.in_ok-kept.ensures.none)

pub give_back-requires : goal.give_back-requires
give_back-requires g c =
    let entry = g.D.References.entry in
    let kept =
    none_kept entry c.args.pair.now _ c.in_ok-kept.kept.table
    (omega (arith, c.requires.variables, c.allows_none.ensures.kept.variables))
    c.in_ok-kept.ensures.size c.in_ok-kept.ensures.none in
    (moved_kept entry c.args.pair.now _ _ c.in_ok-kept.kept.table _ kept
    (rw c.in_ok-schedule.ensures.schedule.pair at c.compare_in_turn-found.ensures.moves)).owned

pub returns-in_err-found-clause-kept : goal.returns-in_err-found-clause-kept
returns-in_err-found-clause-kept g c =
    kept_in_turn g.D.References.entry _ _ _ _ c.in_ok-kept.kept.table _
    c.allows_none.ensures.kept c.in_ok-kept.ensures.none
    c.compare_in_turn-found.ensures.moves.moves c.give_back.ensures

pub returns-clause-found : goal.returns-clause-found
returns-clause-found g c =
    compared_outcome c.args.pair.now c.args.every c.in_ok-allows_none.field-0 c.in_ok-found.field-0
    c.in_ok-allows_none.ensures.none
    c.if-branch.false (rw (c.in_ok-schedule.ensures.schedule.pair, c.in_ok-schedule.ensures.every) at
    c.in_ok-found.ensures.found)

pub returns-clause-kept : goal.returns-clause-kept
returns-clause-kept g c =
    kept_in_turn g.D.References.entry _ _ _ _ c.in_ok-kept.kept.table _
    c.allows_none.ensures.kept c.in_ok-kept.ensures.none
    c.compare_in_turn-found.ensures.moves.moves c.give_back.ensures
