use Rattle.std.proofs.Common.{take}
use Rattle.eqc_cover.specs.Table.{Tabulates}
use Rattle.eqc_cover.proofs.RowTableLaws.{some_matches}
use Rattle.eqc_cover.proofs.table.some_row_table.Given as goal

abbrev pub invariant-loop-k : goal.invariant-loop-k
invariant-loop-k l = Tabulates l.table l.columns (some_matches (take l.k l.rows))
