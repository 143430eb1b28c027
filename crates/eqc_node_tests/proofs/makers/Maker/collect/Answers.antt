use Rattle.eqc_arena.proofs.Resting.{rest_begins}
use Rattle.eqc_node_tests.proofs.Making.{at_rest, makes_still}
use Rattle.eqc_node_tests.proofs.makers.Maker.collect.Goals as goal

pub collect-requires-clause-rest : goal.collect-requires-clause-rest
collect-requires-clause-rest g c =
    rest_begins (at_rest c.args.self.now.worker.known.core c.args.self.now.making.rests)

pub invariant_of-self : goal.invariant_of-self
invariant_of-self g c =
    record {
      making = makes_still c.args.self.now.variables c.args.self.now.references.items
          c.args.self.now.worker c.collect.new.worker c.args.self.now.making c.collect.ensures.changes;
    }
