use Rattle.std.proofs.Common.{◌≡◌}
use Rattle.eqc_guard.specs.Standing.{Steps}
use Rattle.eqc_guard.proofs.worker.Worker.lock_stripe.Given as goal

abbrev pub invariant-loop : goal.invariant-loop
invariant-loop g l = Steps l.fn.self l.fn.self.known.core l.self
    × (l.self.known.copy ≡ l.fn.self.known.copy) × (l.self.known.counted ≡ l.fn.self.known.counted)
