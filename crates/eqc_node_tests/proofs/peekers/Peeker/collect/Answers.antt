use Rattle.eqc_node_tests.proofs.Peeking.{may_begin, peeks_still}
use Rattle.eqc_node_tests.proofs.peekers.Peeker.collect.Goals as goal

pub collect-requires-clause-rest : goal.collect-requires-clause-rest
collect-requires-clause-rest g c = may_begin c.args.self.now.references.items
    c.args.self.now.snapshots.items c.args.self.now.worker c.args.self.now.peeking

pub invariant_of-self : goal.invariant_of-self
invariant_of-self g c = record {
  peeking = peeks_still c.args.self.now.references.items
      c.args.self.now.snapshots.items c.args.self.now.worker c.args.self.now.peeking
      c.collect.new.worker c.collect.ensures.changes;
}
