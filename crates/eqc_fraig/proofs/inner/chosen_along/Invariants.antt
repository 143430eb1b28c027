use Rattle.eqc_fraig.proofs.AlongLaws.{IsAlong}
use Rattle.eqc_fraig.proofs.inner.chosen_along.Given as goal

abbrev pub invariant-loop-k : goal.invariant-loop-k
invariant-loop-k l = IsAlong l.fn.steps.pair l.more.items l.k
