use Rattle.eqc_tree.specs.declared.operation.Op.TheVariants.{And}
use Rattle.eqc_node_tests.proofs.Making.{makes_passed, makes_hit}
use Rattle.eqc_node_tests.proofs.makers.Maker.lookup_and.Goals as goal

pub invariant_of-self : goal.invariant_of-self
invariant_of-self g c =
    record {
      making =
          makes_passed c.args.self.now.variables c.args.self.now.references.items
          c.args.self.now.worker c.lookup.new.worker c.args.self.now.making (c.lookup.ensures.miss
          c.in_default.is);
    }

pub invariant_of-self-2 : goal.invariant_of-self-2
invariant_of-self-2 g c =
    record {
      making =
          makes_hit c.args.self.now.variables c.index.result.now.number c.index-2.result.now.number
          And c.in-Some.found
          c.args.self.now.references.items c.keep.new.references.items c.args.self.now.worker
          c.lookup.new.worker c.args.self.now.making
          c.in-Some.ensures.hit c.keep.ensures;
    }
