use Rattle.eqc_tree.specs.declared.operation.Op.TheVariants.{And}
use Rattle.eqc_node_tests.proofs.Peeking.{may_peek, peeks_none, peeks_more}
use Rattle.eqc_node_tests.proofs.peekers.Peeker.peek_and.Goals as goal

pub peek-requires-clause-may : goal.peek-requires-clause-may
peek-requires-clause-may g c = may_peek c.args.self.now.references.items
    c.args.self.now.snapshots.items c.args.self.now.worker c.args.self.now.peeking

pub invariant_of-self : goal.invariant_of-self
invariant_of-self g c = record {
  peeking = peeks_none c.args.self.now.references.items
      c.args.self.now.snapshots.items c.args.self.now.worker c.args.self.now.peeking c.peek.new.worker
      (c.peek.ensures.miss c.in_default.is);
}

pub invariant_of-self-2 : goal.invariant_of-self-2
invariant_of-self-2 g c = record {
  peeking =
      peeks_more c.args.self.now.references.items c.args.self.now.snapshots.items
      c.args.self.now.worker c.args.self.now.peeking And c.index.result.now.number
      c.index-2.result.now.number c.in-Some.snapshot c.peek.new.worker
      c.in-Some.ensures.peeked c.keep.new.references.items c.keep.ensures;
}
