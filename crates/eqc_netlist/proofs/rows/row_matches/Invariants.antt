use Rattle.std.proofs.Common.{◌≡◌, drop}
use Rattle.eqc_netlist.specs.Cover.{row_matches}
use Rattle.eqc_netlist.proofs.rows.row_matches.Given as goal

-- what is left decides
abbrev pub invariant-loop-i : goal.invariant-loop-i
invariant-loop-i l = row_matches (drop l.i l.row) (drop l.i l.values) ≡ row_matches l.row l.values
