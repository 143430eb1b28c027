use Rattle.eqc_apply.proofs.Kept.{cells_stay}
use Rattle.eqc_apply.proofs.applier.Applier.withdraw_late.Goals as goal

pub invariant_of-self : goal.invariant_of-self
invariant_of-self c = record {
  cached = cells_stay c.args.self.now.names c.withdraw.new.self
      c.args.self.now.cells.cells.items c.withdraw.ensures.names c.args.self.now.cached;
}

pub invariant_of-self-2 : goal.invariant_of-self-2
invariant_of-self-2 c = record {
  cached = cells_stay c.args.self.now.names c.withdraw.new.self
      c.args.self.now.cells.cells.items c.withdraw.ensures.names c.args.self.now.cached;
}
