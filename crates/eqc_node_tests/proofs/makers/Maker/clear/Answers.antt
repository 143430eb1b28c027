use Rattle.eqc_node_tests.proofs.Making.{makes_before}
use Rattle.eqc_node_tests.proofs.makers.Maker.clear.Goals as goal

pub invariant_of-self : goal.invariant_of-self
invariant_of-self g c =
    record {
      making = makes_before c.args.self.now.variables c.args.self.now.references.items
          c.args.self.now.worker c.clear.new.worker c.args.self.now.making c.clear.ensures.before;
    }
