use Rattle.std.proofs.Common.{◌≡◌, ℕ, ◌<◌, Some, false, length, get_or, nat_eq}
use Rattle.indexmap.specs.IndexMap.{get}
use Rattle.eqc_report.proofs.evaluating.Walk.read.Given as goal

abbrev pub invariant-loop-k : goal.invariant-loop-k
invariant-loop-k l = record {
  long : length l.read.items ≡ l.k;
  each : (j : ℕ) → j < l.k → get nat_eq l.self.values (get_or l.signals j 0)
      ≡ Some (get_or l.read.items j false);
}
