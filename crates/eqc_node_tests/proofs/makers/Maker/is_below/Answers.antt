use Rattle.eqc_node_tests.proofs.Making.{makes_still}
use Rattle.eqc_node_tests.proofs.makers.Maker.is_below.Goals as goal

pub invariant_of-self : goal.invariant_of-self
invariant_of-self c =
    record {
      making = makes_still c.args.self.now.variables c.args.self.now.references.items
          c.args.self.now.worker c.starts_above.new.worker c.args.self.now.making
          c.starts_above.ensures.changes;
    }
