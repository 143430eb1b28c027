use Rattle.std.proofs.Common.{ℕ, ◌+◌, ◌≤◌, drop}
use Rattle.eqc_core.specs.Words.{times}
use Rattle.eqc_worker_tests.specs.Driving.{references_of}
use Rattle.eqc_worker_tests.proofs.drivers.keep_ejected.Given as goal

abbrev pub invariant-loop-x : goal.invariant-loop-x
invariant-loop-x g l = (x : ℕ) → 2 ≤ x → references_of x l.references.items
    + times x (drop l.x-index l.ejected) ≤ times x l.worker.known.core.held
