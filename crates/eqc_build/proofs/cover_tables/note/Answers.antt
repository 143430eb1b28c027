use Rattle.std.proofs.Common.{arith}
use Rattle.eqc_build.proofs.CoverTableLaws.{tables_more, tables_same}
use Rattle.eqc_build.proofs.cover_tables.note.Goals as goal

pub returns-in-Ok : goal.returns-in-Ok
returns-in-Ok c =
    tables_more c.args.flat.now c.args.tables.now.entries c.insert.new.self.entries c.in-Cover.rows
    c.len-columns.result c.cover_table-table.result c.requires.tables
    (omega (arith, c.if-columns-gt-MOST_COLUMNS.false)) (rw c.rows-cover.ensures at
    c.cover_table-table.ensures) c.in-Ok.ensures.updates.0

pub returns-in-Err : goal.returns-in-Err
returns-in-Err c = tables_same c.args.flat.now c.args.tables.now.entries c.insert.new.self.entries
    c.requires.tables c.in-Err.ensures.err
