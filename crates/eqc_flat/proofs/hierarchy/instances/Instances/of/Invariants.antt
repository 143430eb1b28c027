use Rattle.std.proofs.Common.{◌≡◌, ◌≤◌, ◌-◌, length}
use Rattle.eqc_flat.specs.Instances.{first_below, IsFound}
use Rattle.eqc_flat.proofs.hierarchy.instances.Instances.of.Given as goal

abbrev pub invariant-instances : goal.invariant-instances
invariant-instances l = record {
  top : l.all.top ≡ l.top;
  within : l.k ≤ length l.all.models.items;
  found : IsFound l.calls l.top (first_below l.calls l.top l.k) l.all.models.items
      l.all.firsts.items l.all.places.items l.all.signals;
}

abbrev pub decreases-instances : goal.decreases-instances
decreases-instances l = 1048578 - l.k
