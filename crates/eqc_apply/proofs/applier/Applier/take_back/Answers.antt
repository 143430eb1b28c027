use Rattle.eqc_apply.proofs.Meanings.{extends_refl, extends_trans}
use Rattle.eqc_apply.proofs.Kept.{cells_stay}
use Rattle.eqc_apply.proofs.applier.Applier.take_back.Goals.{then-level-len-via-then-level-len}
use Rattle.eqc_apply.proofs.applier.Applier.take_back.Goals.{then-level-len-via-else-level-len+then-is_taken}
use Rattle.eqc_apply.proofs.applier.Applier.take_back.Goals as goal

pub invariant_of-self-then-is_taken : goal.invariant_of-self-then-is_taken
invariant_of-self-then-is_taken g c =
    record {
      cached = cells_stay c.args.self.now.names c.is_taken.new.self
          c.args.self.now.cells.cells.items c.is_taken.ensures c.args.self.now.cached;
    }

pub invariant_of-self-2 : goal.invariant_of-self-2
invariant_of-self-2 g c =
    record {
      cached =
          cells_stay c.is_taken.new.self c.take_back.new.self c.args.self.now.cells.cells.items
          c.take_back.ensures.names
          (cells_stay c.args.self.now.names c.is_taken.new.self c.args.self.now.cells.cells.items
          c.is_taken.ensures c.args.self.now.cached);
    }

pub returns-in_err-x-clause-names : goal.returns-in_err-x-clause-names
returns-in_err-x-clause-names g c = extends_trans c.args.self.now.names c.is_taken.new.self
    c.take_back.new.self c.is_taken.ensures c.take_back.ensures.names

pub returns-in_default-clause-names : goal.returns-in_default-clause-names
returns-in_default-clause-names g c = extends_trans c.args.self.now.names c.is_taken.new.self
    c.take_back.new.self c.is_taken.ensures c.take_back.ensures.names

pub returns-clause-names : goal.returns-clause-names
returns-clause-names g c =
    let n = c.args.self.now.names in
    let t = extends_trans n c.is_taken.new.self c.take_back.new.self c.is_taken.ensures
    c.take_back.ensures.names in
    extends_trans n c.take_back.new.self c.keep.new.self.names t c.keep.ensures.names

pub returns-then-level-len-clause-names : goal.returns-then-level-len-clause-names
returns-then-level-len-clause-names g c =
    let n = c.args.self.now.names in
    elim c.then-level-len.branch [
      | then-level-len-via-then-level-len w ↦ rw w.self-is (extends_refl n)
      | then-level-len-via-else-level-len+then-is_taken w ↦ rw w.self-is w.is_taken.ensures
    ]
