use Rattle.std.proofs.Common.{length}
use Rattle.eqc_cover.proofs.TableLaws.{all_open}
use Rattle.eqc_gates.proofs.cover.cover_literal.Goals as goal

pub table_literal-requires-clause-depends : goal.table_literal-requires-clause-depends
table_literal-requires-clause-depends c = all_open c.cover_table-table.result
    (length c.args.columns.now) c.if-columns-le-MOST_COLUMNS.true
