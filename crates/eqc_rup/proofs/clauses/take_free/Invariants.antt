use Rattle.std.specs.Bool.{⊤}
use Rattle.std.proofs.Common.{vec_len}
use Rattle.eqc_rup.proofs.clauses.take_free.Given as goal

abbrev pub invariant-loop-number : goal.invariant-loop-number
invariant-loop-number l = ⊤

abbrev pub decreases-loop-number : goal.decreases-loop-number
decreases-loop-number l = vec_len l.free
