use Rattle.std.proofs.Common.{◌≡◌, ◌≤◌}
use Rattle.eqc_report.specs.Left.{count_below}
use Rattle.eqc_report.proofs.undecided.counting.count.Given as goal

abbrev pub invariant-loop-output : goal.invariant-loop-output
invariant-loop-output g l = (l.count ≤ l.output)
    × (l.count ≡ count_below (g.T.Test.test l.test l.pair) l.output)
