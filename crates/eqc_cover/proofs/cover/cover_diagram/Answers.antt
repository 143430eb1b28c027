use Rattle.std.proofs.Common.{length}
use Rattle.eqc_cover.specs.Matching.{said}
use Rattle.eqc_cover.proofs.RowLaws.{length_said}
use Rattle.eqc_cover.proofs.TableLaws.{all_open}
use Rattle.eqc_cover.proofs.MakingLaws.{makes_as}
use Rattle.eqc_cover.proofs.cover.cover_diagram.Goals as goal

pub by_table-requires-clause-depends : goal.by_table-requires-clause-depends
by_table-requires-clause-depends g c = all_open c.cover_table-table.result
    (length c.args.columns.now) c.if-columns-le-MOST_COLUMNS.true

pub returns-then-columns-le-MOST_COLUMNS : goal.returns-then-columns-le-MOST_COLUMNS
returns-then-columns-le-MOST_COLUMNS g c =
    makes_as g.D.References.entry _ _ c.by_table.result _ _
    (λ a. c.cover_table-table.ensures.value (said g.D.References.entry c.args.columns.now a)
    (length_said g.D.References.entry c.args.columns.now a)) c.by_table.ensures
