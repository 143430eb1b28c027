use Rattle.std.proofs.Common.{◌≡◌, map, ℕ, List, Bor}
use Rattle.std.specs.List.{flat_map, range_with_len}
use Rattle.eqc_flat.specs.Flattened.{named_here}
use Rattle.eqc_flat.proofs.hierarchy.Hierarchy.all_signals.Given as goal

abbrev pub invariant-loop-i : goal.invariant-loop-i
invariant-loop-i l =
    map {B = ℕ × List ℕ} (λ (s : ℕ × Bor (List ℕ)). (s.0, s.1.now)) l.all.items
    ≡ flat_map (named_here l.self.0 l.self.1) (range_with_len 0 l.i)
