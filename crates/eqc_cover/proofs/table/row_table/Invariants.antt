use Rattle.std.proofs.Common.{take}
use Rattle.eqc_netlist.specs.Cover.{row_matches}
use Rattle.eqc_cover.specs.Table.{Tabulates}
use Rattle.eqc_cover.proofs.table.row_table.Given as goal

abbrev pub invariant-loop-j : goal.invariant-loop-j
invariant-loop-j l = Tabulates l.table l.columns (row_matches (take l.j l.row))
