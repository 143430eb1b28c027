use Rattle.std.proofs.Common.{◌≡◌, drop}
use Rattle.std.specs.List.{list_any}
use Rattle.eqc_netlist.specs.Cover.{row_matches}
use Rattle.eqc_netlist.proofs.rows.some_matches.Given as goal

-- what is left decides
abbrev pub invariant-loop-k : goal.invariant-loop-k
invariant-loop-k l = list_any (λ row. row_matches row l.values) (drop l.k l.rows)
    ≡ list_any (λ row. row_matches row l.values) l.rows
