use Rattle.eqc_arena.proofs.Taking.{may_clear}
use Rattle.eqc_arena.proofs.Resting.{rest_begins}
use Rattle.eqc_node_tests.proofs.Making.{at_rest, makes_still, makes_before}
use Rattle.eqc_node_tests.proofs.makers.Maker.store_and.Goals as goal

pub store-requires-clause-may : goal.store-requires-clause-may
store-requires-clause-may g c =
    let m = makes_still c.args.self.now.variables c.args.self.now.references.items
    c.args.self.now.worker c.is_and.new.worker c.args.self.now.making c.is_and.ensures.changes
    in
    may_clear c.is_and.new.worker.known c.is_and.ensures.changes.known
    (rest_begins (at_rest c.is_and.new.worker.known.core m.rests)) m.cells

pub invariant_of-self : goal.invariant_of-self
invariant_of-self g c =
    let m = makes_still c.args.self.now.variables c.args.self.now.references.items
    c.args.self.now.worker c.is_and.new.worker c.args.self.now.making c.is_and.ensures.changes
    in
    record {
      making = makes_before c.args.self.now.variables c.args.self.now.references.items
          c.is_and.new.worker c.store.new.worker m c.store.ensures.before;
    }
