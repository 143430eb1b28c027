use Rattle.eqc_guard.proofs.Making.{held_small}
use Rattle.eqc_apply.proofs.Kept.{kept}
use Rattle.eqc_apply.proofs.applier.Applier.keep.Goals as goal

pub keep-requires-clause-f : goal.keep-requires-clause-f
keep-requires-clause-f c = held_small c.args.self.now.names.worker.known c.args.f
    c.recall_laws.ensures c.requires.first

pub keep-requires-clause-g : goal.keep-requires-clause-g
keep-requires-clause-g c = held_small c.args.self.now.names.worker.known c.args.g
    c.recall_laws.ensures c.requires.second

pub keep-requires-clause-r : goal.keep-requires-clause-r
keep-requires-clause-r c = held_small c.args.self.now.names.worker.known c.args.x
    c.recall_laws.ensures c.requires.within

pub invariant_of-self : goal.invariant_of-self
invariant_of-self c =
    let n = c.args.self.now.names in
    record {
      cached =
          kept n.variables n.worker.known c.args.self.now.cells.cells.items
          c.grow.new.self.cells.items c.keep.new.self.cells.items c.args.op
          c.args.f c.args.g c.args.x c.grow.ensures c.keep.ensures c.requires
          c.args.self.now.cached;
    }
