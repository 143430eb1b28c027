use Rattle.eqc_build.proofs.KeptLaws.{none_kept}
use Rattle.eqc_parallel.proofs.member.begin.Goals as goal

pub returns-clause-kept : goal.returns-clause-kept
returns-clause-kept g c =
    none_kept g.D.References.entry c.args.pair.now (g.D.References.holding c.args.diagrams)
    c.in_ok-kept.kept.table c.requires.variables c.in_ok-kept.ensures.size c.in_ok-kept.ensures.none
