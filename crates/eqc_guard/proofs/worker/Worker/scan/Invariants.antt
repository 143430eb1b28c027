use Rattle.std.proofs.Common.{drop}
use Rattle.eqc_guard.specs.Sweeping.{IsLetting}
use Rattle.eqc_guard.proofs.worker.Worker.scan.Given as goal

abbrev pub invariant-loop-x : goal.invariant-loop-x
invariant-loop-x l = IsLetting l.x-items (drop l.x-index l.x-items) l.initial.self l.self
