use Rattle.std.proofs.Common.{◌≡◌, ◌+◌, ◌≤◌, List, ℕ, Some}
use Rattle.eqc_guard.specs.Closing.{above_zero}
use Rattle.eqc_guard.specs.Rule.{counts_from}
use Rattle.eqc_guard.proofs.worker.Worker.tally.Given as goal

abbrev pub invariant-loop-k : goal.invariant-loop-k
invariant-loop-k l = record {
  core : l.self.known.core ≡ l.fn.self.known.core;
  few : l.counted ≤ l.k;
  exact : (ws : List ℕ) → l.fn.self.known.copy ≡ Some ws → (l.self.known.copy ≡ Some ws)
      × (l.counted ≡ above_zero ws (counts_from l.fn.self.known.core.sizes + 2) l.k);
}
