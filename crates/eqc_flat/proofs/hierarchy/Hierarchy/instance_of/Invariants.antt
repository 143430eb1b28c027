use Rattle.std.proofs.Common.{◌≡◌, ◌<◌, ◌+◌, ◌-◌, length}
use Rattle.eqc_hierarchy.specs.Hierarchy.{paths}
use Rattle.eqc_flat.specs.Flattened.{first_signal}
use Rattle.eqc_flat.proofs.hierarchy.Hierarchy.instance_of.Given as goal

abbrev pub invariant-instances : goal.invariant-instances
invariant-instances l = record {
  inside : l.i < length (paths l.self.0 l.self.1);
  here : first_signal l.self.0 l.self.1 l.i + l.k ≡ l.s;
}

abbrev pub decreases-instances : goal.decreases-instances
decreases-instances l = length (paths l.self.0 l.self.1) - l.i
