use Rattle.eqc_node_tests.proofs.Making.{at_rest, makes_both}
use Rattle.eqc_node_tests.proofs.makers.Maker.absorb.Goals as goal

pub absorb-requires-clause-rest : goal.absorb-requires-clause-rest
absorb-requires-clause-rest g c = at_rest c.args.self.now.worker.known.core
    c.args.self.now.making.rests

pub absorb-requires-clause-other_rest : goal.absorb-requires-clause-other_rest
absorb-requires-clause-other_rest g c = at_rest c.args.other.worker.known.core
    c.args.other.making.rests

pub invariant_of-self : goal.invariant_of-self
invariant_of-self g c = record {
  making =
      makes_both c.args.self.now.variables c.args.self.now.references.items
      c.args.other.references.items c.args.self.now.worker
      c.args.other.worker c.absorb.new.self c.args.self.now.making c.absorb.ensures
      c.keep_all.new.references.items
      c.args.other.variables c.args.other.making c.keep_all.ensures;
}
