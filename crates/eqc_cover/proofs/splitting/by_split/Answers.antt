use Rattle.std.proofs.Common.{map, sym, ◌∙◌, ap}
use Rattle.eqc_tree.specs.Holding.{says}
use Rattle.eqc_cover.specs.Matching.{said}
use Rattle.eqc_cover.specs.Table.{table_value}
use Rattle.eqc_cover.specs.Splits.{split_value}
use Rattle.eqc_cover.proofs.MakingLaws.{makes_as}
use Rattle.eqc_cover.proofs.TableLaws.{all_open}
use Rattle.eqc_cover.proofs.SplitsLaws.{last_part_few, last_part_said}
use Rattle.eqc_cover.proofs.splitting.by_split.Goals as goal

pub by_table-requires-clause-depends : goal.by_table-requires-clause-depends
by_table-requires-clause-depends g c = all_open c.in-Table.table _ (last_part_few c.args.columns.now
    c.saturating_sub.result c.saturating_sub.ensures)

pub returns-in-Table : goal.returns-in-Table
returns-in-Table g c =
    makes_as g.D.References.entry _ _ c.by_table.result _ _
    (λ a.
    ap (table_value c.in-Table.table) (last_part_said g.D.References.entry c.args.columns.now
    c.saturating_sub.result a c.saturating_sub.ensures)
    ∙ sym (ap (λ s. split_value s (map (λ r. says (g.D.References.entry r) a) c.args.made.now)
    (said g.D.References.entry c.args.columns.now a)) c.in-Table.is)) c.by_table.ensures
