use Rattle.std.proofs.Common.{◌≡◌, false, take, map, ℕ, List}
use Rattle.eqc_netlist.specs.Names.{has_twice}
use Rattle.eqc_hierarchy.proofs.condition.instance_conditions.first_known.Given as goal

abbrev pub invariant-loop-k : goal.invariant-loop-k
invariant-loop-k l = record {
  names : l.names ≡ map (λ (pair : List ℕ × List ℕ). pair.0) (take l.k l.pairs);
  once : has_twice (map (λ (pair : List ℕ × List ℕ). pair.0) (take l.k l.pairs)) ≡ false;
}
