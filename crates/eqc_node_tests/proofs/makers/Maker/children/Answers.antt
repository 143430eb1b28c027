use Rattle.eqc_node_tests.proofs.Making.{at_rest, makes_still}
use Rattle.eqc_node_tests.proofs.makers.Maker.children.Goals as goal

pub opened-requires-clause-rest : goal.opened-requires-clause-rest
opened-requires-clause-rest g c = at_rest c.args.self.now.worker.known.core
    c.args.self.now.making.rests

pub invariant_of-self : goal.invariant_of-self
invariant_of-self g c = record {
  making = makes_still c.args.self.now.variables
      c.args.self.now.references.items c.args.self.now.worker c.opened.new.worker
      c.args.self.now.making c.opened.ensures;
}
