use Rattle.std.proofs.Common.{◌≡◌, map, take}
use Rattle.eqc_blif.specs.Netlist.{InstanceOf}
use Rattle.eqc_hierarchy.specs.Hierarchy.{model_number}
use Rattle.eqc_hierarchy.proofs.calls.callees_of.Given as goal

abbrev pub invariant-instances : goal.invariant-instances
invariant-instances l = l.all.items ≡ map (λ (i : InstanceOf). model_number l.library i.model)
    (take l.instance-index l.instances)
