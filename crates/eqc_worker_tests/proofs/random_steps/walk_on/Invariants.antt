use Rattle.std.proofs.Common.{◌≡◌}
use Rattle.eqc_worker_tests.proofs.random_steps.walk_on.Given as goal

abbrev pub invariant-loop : goal.invariant-loop
invariant-loop g l = (l.a.worker.forest ≡ l.initial.a.worker.forest)
    × (l.b.worker.forest ≡ l.initial.b.worker.forest)
