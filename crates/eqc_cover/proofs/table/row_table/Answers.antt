use Rattle.std.proofs.Common.{refl, arith}
use Rattle.eqc_cover.proofs.RowTableLaws.{row_begins, row_goes_on, row_ends}
use Rattle.eqc_cover.proofs.table.row_table.Goals as goal

pub loop-j-init : goal.loop-j-init
loop-j-init c = row_begins c.args.columns c.args.row.now c.requires

pub loop-j-preserved : goal.loop-j-preserved
loop-j-preserved c =
    row_goes_on c.loop-j.table c.byte_table-table.result _ c.args.columns c.loop-j.j c.args.row.now
    c.loop-j.invariant c.byte_table-table.ensures refl (omega arith) c.requires (omega arith)

pub returns : goal.returns
returns c = row_ends c.loop-j.table c.args.columns c.loop-j.j c.args.row.now (omega arith)
    c.loop-j.invariant
