use Rattle.std.proofs.Common.{◌≡◌, length}
use Rattle.eqc_fraig.proofs.adding.names.Given as goal

abbrev pub invariant-loop-k : goal.invariant-loop-k
invariant-loop-k l = length l.names.items ≡ l.k
