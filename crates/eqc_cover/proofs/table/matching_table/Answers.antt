use Rattle.std.proofs.Common.{map, refl, arith}
use Rattle.eqc_cover.proofs.RowTableLaws.{rows_begin, slices_go_on, slices_end}
use Rattle.eqc_cover.proofs.table.matching_table.Goals as goal

pub loop-row-init : goal.loop-row-init
loop-row-init c = rows_begin c.args.columns (map (λ r. r.now) c.args.rows.now)

pub loop-row-preserved : goal.loop-row-preserved
loop-row-preserved c = slices_go_on c.loop-row.table c.row_table-table.result _ c.args.columns
    c.loop-row.row-index c.args.rows.now _ c.loop-row.invariant c.row_table-table.ensures refl
    (omega arith)

pub returns : goal.returns
returns c = slices_end c.loop-row.table c.args.columns c.loop-row.row-index c.args.rows.now
    (omega arith) c.loop-row.invariant
