use Rattle.std.proofs.Common.{◌<◌}
use Rattle.std.specs.List.{All}
use Rattle.eqc_fraig.proofs.inner.outputs_of.Given as goal

abbrev pub invariant-loop-output : goal.invariant-loop-output
invariant-loop-output l = All (λ o. o < l.count) l.all.items
