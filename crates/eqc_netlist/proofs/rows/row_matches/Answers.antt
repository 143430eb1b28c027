use Rattle.std.proofs.Common.{◌∙◌}
use Rattle.eqc_netlist.proofs.RowLemmas.{row_matches-past}
use Rattle.eqc_netlist.proofs.rows.row_matches.Goals as goal

pub returns-then-i-row : goal.returns-then-i-row
returns-then-i-row c = row_matches-past c.loop-i.i c.args.row.now _ c.if-i-row.true
    ∙ c.loop-i.invariant
