use Rattle.std.specs.Prelude.{◌≡◌}
use Rattle.eqc_sweep.proofs.sweep.Sweep.put_all.Given as goal

abbrev pub invariant-loop-merge : goal.invariant-loop-merge
invariant-loop-merge l = l.self ≡ l.fn.self
