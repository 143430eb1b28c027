use Rattle.eqc_guard.specs.Searching.{HasSeen}
use Rattle.eqc_guard.proofs.worker.Worker.claim_between.Given as goal

abbrev pub invariant-loop-slot : goal.invariant-loop-slot
invariant-loop-slot l = HasSeen l.fn.first l.slot l.fn.self l.self
