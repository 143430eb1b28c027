use Rattle.eqc_tree.specs.declared.operation.Op.TheVariants.{And}
use Rattle.eqc_worker_tests.proofs.Driving.{hit_driven}
use Rattle.eqc_worker_tests.proofs.drivers.Driver.lookup.Goals as goal

pub invariant_of-self-2 : goal.invariant_of-self-2
invariant_of-self-2 g c = record {
  driven =
      hit_driven c.args.self.now.phase c.args.self.now.position And c.index-x.result.now.number
      c.index-x.result.now.number c.look-word.result
      c.in_ok-reference.reference c.args.self.now.references.items c.keep.new.references.items
      c.args.self.now.worker c.lookup-found.new.worker c.look-word.new.self c.args.self.now.driven
      c.in_ok-reference.ensures.hit c.look-word.ensures.step c.keep.ensures;
}
