use Rattle.std.proofs.Common.{◌≡◌}
use Rattle.eqc_sums.proofs.polynomial.put.Given as goal

abbrev pub invariant-loop-k : goal.invariant-loop-k
invariant-loop-k l = l.out.items ≡ l.fn.out.items
