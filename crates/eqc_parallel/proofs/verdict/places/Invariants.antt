use Rattle.std.proofs.Common.{◌≡◌, None, replicate}
use Rattle.eqc_parallel.proofs.verdict.places.Given as goal

abbrev pub invariant-loop : goal.invariant-loop
invariant-loop l = l.row.items ≡ replicate l.counter None
