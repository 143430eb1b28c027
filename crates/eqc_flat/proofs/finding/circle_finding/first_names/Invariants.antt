use Rattle.std.proofs.Common.{◌≡◌, ◌≤◌, map, take}
use Rattle.eqc_flat.specs.Flattened.{signal_at}
use Rattle.eqc_flat.specs.Finding.{hierarchical_name}
use Rattle.eqc_flat.proofs.finding.circle_finding.first_names.Given as goal

abbrev pub invariant-loop-k : goal.invariant-loop-k
invariant-loop-k l = record {
  few : l.k ≤ 20;
  made : l.names.items ≡ map (λ s. hierarchical_name l.hierarchy.0 l.hierarchy.1
      (signal_at l.hierarchy.0 l.hierarchy.1 s)) (take l.k l.members);
}
