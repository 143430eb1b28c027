use Rattle.std.proofs.Common.{◌≡◌}
use Rattle.eqc_core.specs.State.{repeated}
use Rattle.eqc_core.proofs.stock.silence.Given as goal

abbrev pub invariant-loop-k : goal.invariant-loop-k
invariant-loop-k l = l.names.items ≡ repeated 0 l._k
