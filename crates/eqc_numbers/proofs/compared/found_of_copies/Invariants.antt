use Rattle.std.specs.Prelude.{◌≡◌, ℕ, ◌<◌, slice_index}
use Rattle.eqc_sweep.specs.Finding.{AreEqual}
use Rattle.eqc_numbers.proofs.compared.found_of_copies.Given as goal

abbrev pub invariant-bits : goal.invariant-bits
invariant-bits l = record {
  same : l.sweep ≡ l.initial.sweep;
  equal : (j : ℕ) → j < l.k
      → AreEqual l.initial.sweep (slice_index l.ps.items j) (slice_index l.qs.items j);
}
