use Rattle.eqc_node_tests.proofs.Peeking.{peeks_fewer}
use Rattle.eqc_node_tests.proofs.peekers.Peeker.give_back.Goals as goal

pub invariant_of-self : goal.invariant_of-self
invariant_of-self g c = record {
  peeking =
      peeks_fewer c.args.self.now.references.items c.args.self.now.snapshots.items
      c.args.self.now.worker c.args.self.now.peeking c.place-place.result
      c.swap_remove-reference.result c.swap_remove-reference.new.self.items
      c.give_back.new.worker
      c.give_back.ensures c.place-place.ensures c.swap_remove-reference.ensures.value
      c.swap_remove-reference.ensures.items;
}
