use Rattle.std.proofs.Common.{◌≡◌, ◌++◌}
use Rattle.eqc_core.specs.State.{literals}
use Rattle.eqc_guard.proofs.stock.extend_with_literals.Given as goal

abbrev pub invariant-loop-k : goal.invariant-loop-k
invariant-loop-k l = l.words.items ≡ l.fn.words.items ++ literals 0 l.k
