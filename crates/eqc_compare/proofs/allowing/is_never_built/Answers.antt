use Rattle.eqc_build.proofs.KeptLaws.{none_kept, none_moved, moved_kept, nothing_moved}
use Rattle.eqc_compare.proofs.allowing.is_never_built.Goals as goal

pub is_never_true-never-requires-clause-kept : goal.is_never_true-never-requires-clause-kept
is_never_true-never-requires-clause-kept g c =
    none_kept g.D.References.entry c.args.plan.now.steps.pair _ c.for_few-kept.result.table
    c.requires.variables
    c.for_few-kept.ensures.size c.for_few-kept.ensures.none

pub give_back-requires : goal.give_back-requires
give_back-requires g c =
    let kept =
    none_kept g.D.References.entry c.args.plan.now.steps.pair _ c.for_few-kept.result.table
    c.requires.variables
    c.for_few-kept.ensures.size c.for_few-kept.ensures.none in
    (moved_kept g.D.References.entry c.args.plan.now.steps.pair _ _ c.for_few-kept.result.table _
    kept c.is_never_true-never.ensures.moves).owned

pub returns-clause-kept : goal.returns-clause-kept
returns-clause-kept g c =
    nothing_moved g.D.References.entry _ _ _ c.for_few-kept.result.table _
    (none_moved g.D.References.entry _ c.for_few-kept.result.table c.for_few-kept.ensures.none)
    c.is_never_true-never.ensures.moves.moves c.give_back.ensures
