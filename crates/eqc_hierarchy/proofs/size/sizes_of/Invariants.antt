use Rattle.std.proofs.Common.{◌≡◌, ◌+◌, ℕ, length, take, get_or, true, None}
use Rattle.eqc_netlist.specs.Dependency.{among}
use Rattle.eqc_hierarchy.specs.Sizes.{IsTold, model_size}
use Rattle.eqc_hierarchy.proofs.size.sizes_of.Given as goal

abbrev pub invariant-loop-k : goal.invariant-loop-k
invariant-loop-k l = record {
  each : length l.sizes.items ≡ length l.calls + 1;
  told : (m : ℕ) → among (take l.k l.order) m ≡ true
      → IsTold (get_or l.sizes.items m None) (model_size l.calls m);
}
