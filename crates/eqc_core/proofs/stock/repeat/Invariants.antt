use Rattle.std.proofs.Common.{◌≡◌}
use Rattle.eqc_core.specs.State.{repeated}
use Rattle.eqc_core.proofs.stock.repeat.Given as goal

abbrev pub invariant-loop-k : goal.invariant-loop-k
invariant-loop-k l = l.words.items ≡ repeated l.word l._k
