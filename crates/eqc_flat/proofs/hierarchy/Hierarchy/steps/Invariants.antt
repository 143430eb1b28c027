use Rattle.std.proofs.Common.{◌≡◌, ◌<◌, ◌++◌, length}
use Rattle.eqc_hierarchy.specs.Hierarchy.{paths}
use Rattle.eqc_flat.specs.Flattened.{path_at}
use Rattle.eqc_flat.specs.Finding.{steps_of}
use Rattle.eqc_flat.proofs.hierarchy.Hierarchy.steps.Given as goal

abbrev pub invariant-up : goal.invariant-up
invariant-up l = record {
  inside : l.inner < length (paths l.self.0 l.self.1);
  made : steps_of l.self.0 l.self.1 (path_at l.self.0 l.self.1 l.i) ≡ l.steps.items
      ++ steps_of l.self.0 l.self.1 (path_at l.self.0 l.self.1 l.inner);
}

abbrev pub decreases-up : goal.decreases-up
decreases-up l = l.inner
