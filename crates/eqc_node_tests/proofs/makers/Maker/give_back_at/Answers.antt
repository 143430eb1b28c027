use Rattle.eqc_node_tests.proofs.Making.{makes_fewer}
use Rattle.eqc_node_tests.proofs.makers.Maker.give_back_at.Goals as goal

pub invariant_of-self : goal.invariant_of-self
invariant_of-self c = record {
  making =
      makes_fewer c.args.self.now.variables c.args.place c.swap_remove-reference.result
      c.args.self.now.references.items
      c.swap_remove-reference.new.self.items c.args.self.now.worker c.give_back.new.worker
      c.args.self.now.making c.give_back.ensures
      c.requires c.swap_remove-reference.ensures.value c.swap_remove-reference.ensures.items;
}
