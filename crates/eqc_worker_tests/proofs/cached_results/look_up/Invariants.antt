use Rattle.std.proofs.Common.{◌≡◌, ◌≤◌}
use Rattle.eqc_worker_tests.proofs.cached_results.look_up.Given as goal

abbrev pub invariant-loop : goal.invariant-loop
invariant-loop g l = (l.driver.worker.forest ≡ l.initial.driver.worker.forest)
    × (l.wrong ≤ l.counter)
