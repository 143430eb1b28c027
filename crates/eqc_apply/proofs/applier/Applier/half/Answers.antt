use Rattle.eqc_apply.proofs.Kept.{cells_stay}
use Rattle.eqc_apply.proofs.applier.Applier.half.Goals as goal

pub invariant_of-self : goal.invariant_of-self
invariant_of-self c = record {
  cached = cells_stay c.args.self.now.names c.expand.new.names
      c.args.self.now.cells.cells.items c.expand.ensures.names c.args.self.now.cached;
}
