use Rattle.std.proofs.Common.{refl, arith}
use Rattle.eqc_cover.proofs.RowTableLaws.{rows_begin, rows_go_on, rows_end}
use Rattle.eqc_cover.proofs.table.some_row_table.Goals as goal

pub loop-k-init : goal.loop-k-init
loop-k-init c = rows_begin c.args.columns c.args.rows.now

pub loop-k-preserved : goal.loop-k-preserved
loop-k-preserved c =
    rows_go_on c.loop-k.table c.row_table-table.result _ c.args.columns c.loop-k.k c.args.rows.now
    c.loop-k.invariant (rw c.get.ensures at c.row_table-table.ensures) refl (omega arith)

pub returns : goal.returns
returns c = rows_end c.loop-k.table c.args.columns c.loop-k.k c.args.rows.now (omega arith)
    c.loop-k.invariant
