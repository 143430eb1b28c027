use Rattle.std.proofs.Common.{◌≡◌}
use Rattle.eqc_worker_tests.proofs.forests.has_scanned.Given as goal

abbrev pub invariant-loop : goal.invariant-loop
invariant-loop g l = l.driver.worker.forest ≡ l.initial.driver.worker.forest
