use Rattle.eqc_apply.proofs.Kept.{cells_stay}
use Rattle.eqc_apply.proofs.applier.Applier.retract.Goals as goal

pub invariant_of-self : goal.invariant_of-self
invariant_of-self c = record {
  cached = cells_stay c.args.self.now.names c.withdraw.new.self
      c.args.self.now.cells.cells.items c.withdraw.ensures.names c.args.self.now.cached;
}

pub invariant_of-self-else-not-withdraw : goal.invariant_of-self-else-not-withdraw
invariant_of-self-else-not-withdraw c =
    record {
      cached = cells_stay c.args.self.now.names c.withdraw.new.self
          c.args.self.now.cells.cells.items c.withdraw.ensures.names c.args.self.now.cached;
    }
