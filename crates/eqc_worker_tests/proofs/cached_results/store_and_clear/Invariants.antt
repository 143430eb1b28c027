use Rattle.std.proofs.Common.{◌≡◌}
use Rattle.eqc_worker_tests.proofs.cached_results.store_and_clear.Given as goal

abbrev pub invariant-loop : goal.invariant-loop
invariant-loop l = l.driver.worker.forest ≡ l.initial.driver.worker.forest
