use Rattle.std.proofs.Common.{arith}
use Rattle.eqc_cover.proofs.RowTableLaws.{zero_table, one_table, free_table}
use Rattle.eqc_cover.proofs.table.byte_table.Goals as goal

pub returns-in-48 : goal.returns-in-48
returns-in-48 c = zero_table c.column_table.result c.args.j c.args.byte c.column_table.ensures
    (omega arith) c.in-48.is

pub returns-in-49 : goal.returns-in-49
returns-in-49 c = one_table c.column_table-in-49.result c.args.j c.args.byte
    c.column_table-in-49.ensures c.in-49.is

pub returns-in_default : goal.returns-in_default
returns-in_default c = free_table c.args.j c.args.byte (λ e. omega (arith, e))
    (λ e. omega (arith, e))
