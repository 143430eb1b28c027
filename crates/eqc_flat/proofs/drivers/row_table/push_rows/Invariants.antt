use Rattle.std.proofs.Common.{◌≡◌, ◌++◌, take, map}
use Rattle.eqc_blif.specs.Netlist.{CoverOf}
use Rattle.eqc_flat.proofs.drivers.row_table.push_rows.Given as goal

abbrev pub invariant-covers : goal.invariant-covers
invariant-covers l = l.all.items ≡ l.fn.all.items ++ map (λ (c : CoverOf). c.rows)
    (take l.cover-index l.covers)
