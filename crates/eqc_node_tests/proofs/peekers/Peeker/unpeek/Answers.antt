use Rattle.eqc_node_tests.proofs.Peeking.{last_out, peeks_fewer_out}
use Rattle.eqc_node_tests.proofs.peekers.Peeker.unpeek.Goals as goal

pub unpeek-requires-clause-out : goal.unpeek-requires-clause-out
unpeek-requires-clause-out g c =
    last_out c.args.self.now.references.items c.args.self.now.snapshots.items c.pop.new.self.items
    c.in-Some.snapshot c.args.self.now.worker c.args.self.now.peeking c.in-Some.ensures.items

pub invariant_of-self : goal.invariant_of-self
invariant_of-self g c = record {
  peeking =
      peeks_fewer_out c.args.self.now.references.items c.args.self.now.snapshots.items
      c.pop.new.self.items c.in-Some.snapshot c.args.self.now.worker
      c.args.self.now.peeking c.in-Some.ensures.items c.unpeek.new.worker c.unpeek.ensures.constant
      c.unpeek.ensures.node;
}
