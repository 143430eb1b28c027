use Rattle.std.proofs.Common.{◌<◌, ◌≤◌, ℕ, length}
use Rattle.eqc_netlist.specs.Graph.{driver_at}
use Rattle.eqc_strash.specs.Numbering.{rows_until}
use Rattle.eqc_strash.proofs.row_set.rows_named.Given as goal

abbrev pub invariant-loop-s : goal.invariant-loop-s
invariant-loop-s l = record {
  within : l.count ≤ length l.flat.rows;
  small : l.count ≤ 4294967296;
  named : (t : ℕ) → t < l.s → rows_until (driver_at l.flat t) ≤ l.count;
}
