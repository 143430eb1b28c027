use Rattle.std.proofs.Common.{◌≤◌}
use Rattle.eqc_cover.proofs.table.support.Given as goal

abbrev pub invariant-loop-j : goal.invariant-loop-j
invariant-loop-j l = l.count ≤ l.j
