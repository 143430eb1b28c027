use Rattle.eqc_build.proofs.KeptLaws.{none_kept, none_moved, moved_kept, nothing_moved}
use Rattle.eqc_compare.proofs.compare.compare_once.Goals as goal

pub compare_turn-found-requires : goal.compare_turn-found-requires
compare_turn-found-requires g c = record {
  within = c.requires.output;
  turn = c.requires.turn;
  kept =
      none_kept g.D.References.entry c.args.plan.now.steps.pair _ c.for_few-kept.result.table
      c.requires.variables
      c.for_few-kept.ensures.size c.for_few-kept.ensures.none;
}

pub give_back-requires : goal.give_back-requires
give_back-requires g c =
    let kept =
    none_kept g.D.References.entry c.args.plan.now.steps.pair _ c.for_few-kept.result.table
    c.requires.variables
    c.for_few-kept.ensures.size c.for_few-kept.ensures.none in
    (moved_kept g.D.References.entry c.args.plan.now.steps.pair _ _ c.for_few-kept.result.table _
    kept c.compare_turn-found.ensures.moves).owned

pub returns-clause-kept : goal.returns-clause-kept
returns-clause-kept g c =
    nothing_moved g.D.References.entry _ _ _ c.for_few-kept.result.table _
    (none_moved g.D.References.entry _ c.for_few-kept.result.table c.for_few-kept.ensures.none)
    c.compare_turn-found.ensures.moves.moves c.give_back.ensures
