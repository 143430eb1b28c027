use Rattle.std.proofs.Common.{◌≡◌}
use Rattle.eqc_worker_tests.proofs.drivers.Driver.rest.Given as goal

abbrev pub invariant-loop : goal.invariant-loop
invariant-loop g l = l.self.worker.forest ≡ l.initial.self.worker.forest
