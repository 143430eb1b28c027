use Rattle.eqc_node_tests.proofs.Making.{at_rest, makes_still, makes_more}
use Rattle.eqc_node_tests.proofs.makers.Maker.mk_at.Goals as goal

pub made-requires-clause-rest : goal.made-requires-clause-rest
made-requires-clause-rest g c = at_rest c.args.self.now.worker.known.core
    c.args.self.now.making.rests

pub invariant_of-self : goal.invariant_of-self
invariant_of-self g c =
    record {
      making = makes_still c.args.self.now.variables c.args.self.now.references.items
          c.args.self.now.worker c.made.new.worker c.args.self.now.making c.in_err-node.ensures.still;
    }

pub invariant_of-self-2 : goal.invariant_of-self-2
invariant_of-self-2 g c =
    record {
      making =
          makes_more c.args.self.now.variables c.in_ok-node.node c.args.self.now.references.items
          c.keep.new.references.items c.args.self.now.worker
          c.made.new.worker c.args.self.now.making c.in_ok-node.ensures.node c.keep.ensures;
    }
