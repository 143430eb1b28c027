use Rattle.std.proofs.Common.{map, take}
use Rattle.eqc_cover.specs.Table.{Tabulates}
use Rattle.eqc_cover.proofs.RowTableLaws.{some_matches}
use Rattle.eqc_cover.proofs.table.matching_table.Given as goal

abbrev pub invariant-loop-row : goal.invariant-loop-row
invariant-loop-row l = Tabulates l.table l.columns
    (some_matches (take l.row-index (map (λ r. r.now) l.rows)))
