use Rattle.std.proofs.Common.{sym, ◌∙◌, arith}
use Rattle.eqc_cover.proofs.RowTableLaws.{on_table, empty_table, off_table}
use Rattle.eqc_cover.proofs.table.cover_table.Goals as goal

pub returns-then-is_empty : goal.returns-then-is_empty
returns-then-is_empty c = empty_table c.some_row_table-matched.result c.args.columns c.args.rows.now
    c.some_row_table-matched.ensures (sym c.is_empty.ensures ∙ c.if-is_empty.true)

pub returns-then-is_on_set : goal.returns-then-is_on_set
returns-then-is_on_set c = on_table c.some_row_table-matched.result c.args.columns c.args.rows.now
    c.some_row_table-matched.ensures (sym c.is_on_set.ensures ∙ c.if-is_on_set.true)

pub returns : goal.returns
returns c =
    off_table c.some_row_table-matched.result c.args.columns c.args.rows.now (omega arith)
    c.requires c.some_row_table-matched.ensures
    (sym c.is_empty.ensures ∙ c.if-is_empty.false) (sym c.is_on_set.ensures ∙ c.if-is_on_set.false)
