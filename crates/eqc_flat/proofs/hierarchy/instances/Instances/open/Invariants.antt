use Rattle.std.proofs.Common.{◌≡◌, ◌+◌}
use Rattle.eqc_flat.specs.Instances.{first_below, IsFound}
use Rattle.eqc_flat.proofs.hierarchy.instances.Instances.open.Given as goal

abbrev pub invariant-loop-position : goal.invariant-loop-position
invariant-loop-position l = record {
  top : l.self.top ≡ l.fn.self.top;
  found : IsFound l.fn.calls l.fn.self.top (first_below l.fn.calls l.fn.self.top l.fn.k
      + l.position) l.self.models.items l.self.firsts.items l.self.places.items l.self.signals;
}
