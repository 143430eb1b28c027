use Rattle.std.proofs.Common.{◌≡◌, ◌++◌, take, map, ℕ, List, Bor}
use Rattle.eqc_hierarchy.specs.Signals.{names_of}
use Rattle.eqc_flat.specs.Flattened.{model_of}
use Rattle.eqc_flat.proofs.hierarchy.Hierarchy.push_signals.Given as goal

abbrev pub invariant-loop-k : goal.invariant-loop-k
invariant-loop-k l =
    map {B = ℕ × List ℕ} (λ (s : ℕ × Bor (List ℕ)). (s.0, s.1.now)) l.all.items
    ≡ map {B = ℕ × List ℕ} (λ (s : ℕ × Bor (List ℕ)). (s.0, s.1.now)) l.fn.all.items ++ map {B = ℕ
    × List ℕ} (λ name. (l.i, name)) (take l.k (names_of (model_of l.self.0 l.self.1 l.i)))
