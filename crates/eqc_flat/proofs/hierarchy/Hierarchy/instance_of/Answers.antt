use Rattle.std.proofs.Common.{arith}
use Rattle.eqc_hierarchy.proofs.PathLaws.{first_inside}
use Rattle.eqc_flat.proofs.FindingLaws.{next_instance}
use Rattle.eqc_flat.proofs.hierarchy.Hierarchy.instance_of.Goals as goal

pub instances-init : goal.instances-init
instances-init c = record {
  inside = first_inside c.args.self.now.0 c.args.self.now.1;
  here =
      omega arith;
}

pub overflow_add-i : goal.overflow_add-i
overflow_add-i c = omega (arith, c.instances.invariant.inside, c.count.ensures.few)

pub instances-preserved : goal.instances-preserved
instances-preserved c =
    let next =
    next_instance c.args.self.now.0 c.args.self.now.1 c.instances.i c.instances.k c.args.s
    c.count-k.result c.instances.invariant.inside
    c.instances.invariant.here c.requires c.count-k.ensures.names
    (omega (arith, c.instances-test.true, c.count.ensures.names, c.count-k.ensures.names)) in
    record { inside = next.0; here = next.1 }
