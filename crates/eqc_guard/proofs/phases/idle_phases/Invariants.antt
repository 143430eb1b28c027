use Rattle.std.proofs.Common.{◌≡◌}
use Rattle.eqc_core.specs.View.{idle}
use Rattle.eqc_guard.proofs.phases.idle_phases.Given as goal

abbrev pub invariant-loop-k : goal.invariant-loop-k
invariant-loop-k l = l.phases.items ≡ idle l._k
