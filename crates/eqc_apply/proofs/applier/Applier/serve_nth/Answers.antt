use Rattle.eqc_apply.proofs.Kept.{cells_stay}
use Rattle.eqc_apply.proofs.Helping.{keeps_trans, extends_keeps}
use Rattle.eqc_plain.proofs.Spending.{spends_trans}
use Rattle.eqc_apply.proofs.applier.Applier.serve_nth.Goals as goal

pub invariant_of-self : goal.invariant_of-self
invariant_of-self g c = let s = c.args.self.now in
    record {
      cached = cells_stay s.names c.is_offered.new.self s.cells.cells.items
          c.is_offered.ensures s.cached;
    }

pub returns-then-is_offered-clause-kept : goal.returns-then-is_offered-clause-kept
returns-then-is_offered-clause-kept g c =
    keeps_trans (extends_keeps c.args.self.now.names c.is_offered.new.self c.is_offered.ensures)
    c.serve_box.ensures.kept

pub returns-else-is_offered-clause-kept : goal.returns-else-is_offered-clause-kept
returns-else-is_offered-clause-kept g c = extends_keeps c.args.self.now.names c.is_offered.new.self
    c.is_offered.ensures

pub returns-then-is_offered-clause-turns : goal.returns-then-is_offered-clause-turns
returns-then-is_offered-clause-turns g c = spends_trans c.is_offered.ensures.turns
    c.serve_box.ensures.turns
