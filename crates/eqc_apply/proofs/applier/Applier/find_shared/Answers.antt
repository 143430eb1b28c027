use Rattle.eqc_apply.proofs.Meanings.{extends_trans}
use Rattle.eqc_apply.proofs.Kept.{cells_stay}
use Rattle.eqc_apply.proofs.applier.Applier.find_shared.Goals as goal

pub invariant_of-self : goal.invariant_of-self
invariant_of-self c = record {
  cached =
      cells_stay c.args.self.now.names c.higher_root-variable.new.self
      c.args.self.now.cells.cells.items c.higher_root-variable.ensures.names c.args.self.now.cached;
}

pub invariant_of-self-2 : goal.invariant_of-self-2
invariant_of-self-2 c =
    record {
      cached =
          cells_stay c.higher_root-variable.new.self c.look_up.new.self
          c.args.self.now.cells.cells.items c.look_up.ensures.names
          (cells_stay c.args.self.now.names c.higher_root-variable.new.self
          c.args.self.now.cells.cells.items c.higher_root-variable.ensures.names
          c.args.self.now.cached);
    }

pub returns-in-Ok-clause-names : goal.returns-in-Ok-clause-names
returns-in-Ok-clause-names c = extends_trans c.args.self.now.names c.higher_root-variable.new.self
    c.look_up.new.self c.higher_root-variable.ensures.names c.look_up.ensures.names

pub returns-in-Err-clause-names : goal.returns-in-Err-clause-names
returns-in-Err-clause-names c = extends_trans c.args.self.now.names c.higher_root-variable.new.self
    c.look_up.new.self c.higher_root-variable.ensures.names c.look_up.ensures.names
