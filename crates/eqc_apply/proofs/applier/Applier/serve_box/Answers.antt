use Rattle.std.proofs.Common.{sym, subst}
use Rattle.eqc_plain.specs.Cache.{IsCache}
use Rattle.eqc_tree.specs.Holding.{Keeps}
use Rattle.eqc_apply.specs.declared.held.Held.{Held}
use Rattle.eqc_apply.specs.Meaning.{kept_of}
use Rattle.eqc_apply.specs.Extending.{holding_in}
use Rattle.eqc_apply.specs.Referring.{entry_of}
use Rattle.eqc_apply.proofs.Kept.{cells_stay}
use Rattle.eqc_apply.proofs.Helping.{keeps_trans, kept_again, gained_held, kept_held, extends_keeps}
use Rattle.eqc_plain.proofs.Spending.{spends_as, spends_trans}
use Rattle.eqc_apply.proofs.applier.Applier.serve_box.Goals as goal

pub invariant_of-self : goal.invariant_of-self
invariant_of-self g c = let s = c.args.self.now in
    record {
      cached = cells_stay s.names c.take_task.new.self s.cells.cells.items
          c.take_task.ensures.names s.cached;
    }

pub returns-in_default-clause-kept : goal.returns-in_default-clause-kept
returns-in_default-clause-kept g c = extends_keeps c.args.self.now.names c.take_task.new.self
    c.take_task.ensures.names

pub invariant_of-self-in-Ok-1 : goal.invariant_of-self-in-Ok-1
invariant_of-self-in-Ok-1 g c =
    let s = c.args.self.now in
    record {
      cached = rw (c.refer.ensures.variables, c.refer.ensures.worker)
          (cells_stay s.names c.take_task.new.self s.cells.cells.items c.take_task.ensures.names
          s.cached);
    }

pub answer_with-requires-clause-f : goal.answer_with-requires-clause-f
answer_with-requires-clause-f g c = gained_held (entry_of c.in-Ok.first) _ c.in-Ok.ensures.ok

pub give_back-requires : goal.give_back-requires
give_back-requires g c = kept_held (entry_of c.in-Ok.first) c.answer_with.ensures.kept
    (gained_held (entry_of c.in-Ok.first) _ c.in-Ok.ensures.ok)

pub invariant_of-self-in-Err : goal.invariant_of-self-in-Err
invariant_of-self-in-Err g c =
    let s = c.args.self.now in
    let cached = cells_stay s.names c.take_task.new.self s.cells.cells.items
    c.take_task.ensures.names s.cached in
    record {
      cached =
          cells_stay c.refer.new.self c.put_stop.new.self s.cells.cells.items c.put_stop.ensures
          (subst (λ (n : Held). IsCache (kept_of n.variables n.worker.known) s.cells.cells.items)
          (sym c.in-Err.ensures.still) cached);
    }

pub returns-in-Ok-clause-kept : goal.returns-in-Ok-clause-kept
returns-in-Ok-clause-kept g c =
    keeps_trans (extends_keeps c.args.self.now.names c.take_task.new.self c.take_task.ensures.names)
    (kept_again (entry_of c.in-Ok.first) _ c.in-Ok.ensures.ok c.answer_with.ensures.kept
    c.give_back.ensures.loses)

pub returns-in-Err-clause-kept : goal.returns-in-Err-clause-kept
returns-in-Err-clause-kept g c =
    keeps_trans (extends_keeps c.args.self.now.names c.take_task.new.self c.take_task.ensures.names)
    (subst (λ (n : Held). Keeps (holding_in n) (holding_in c.put_stop.new.self))
    c.in-Err.ensures.still (extends_keeps c.refer.new.self c.put_stop.new.self
    c.put_stop.ensures))

pub returns-in-Ok-clause-turns : goal.returns-in-Ok-clause-turns
returns-in-Ok-clause-turns g c =
    let referred = spends_as c.take_task.new.self.turns c.refer.new.self.turns c.refer.ensures.turns
    in
    spends_trans (spends_trans c.take_task.ensures.names.turns referred)
    (spends_trans c.answer_with.ensures.turns c.give_back.ensures.turns)

pub returns-in-Err-clause-turns : goal.returns-in-Err-clause-turns
returns-in-Err-clause-turns g c =
    let referred = spends_as c.take_task.new.self.turns c.refer.new.self.turns c.refer.ensures.turns
    in
    spends_trans (spends_trans c.take_task.ensures.names.turns referred) c.put_stop.ensures.turns
