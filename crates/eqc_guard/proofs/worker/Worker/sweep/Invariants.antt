use Rattle.std.proofs.Common.{◌-◌}
use Rattle.eqc_core.specs.Words.{announced_words}
use Rattle.eqc_guard.specs.Sweeping.{IsScanning}
use Rattle.eqc_guard.proofs.worker.Worker.sweep.Given as goal

abbrev pub invariant-loop-ejected : goal.invariant-loop-ejected
invariant-loop-ejected l = IsScanning l.fn.self l.self

abbrev pub decreases-loop-ejected : goal.decreases-loop-ejected
decreases-loop-ejected l = announced_words l.self.known.core.sizes - l.self.known.core.position
