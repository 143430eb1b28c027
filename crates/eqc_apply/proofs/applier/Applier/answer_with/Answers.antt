use Rattle.std.proofs.Common.{sym, subst}
use Rattle.eqc_plain.specs.Cache.{IsCache}
use Rattle.eqc_tree.specs.Holding.{Keeps}
use Rattle.eqc_guard.specs.Known.{IsHeld}
use Rattle.eqc_apply.specs.declared.held.Held.{Held}
use Rattle.eqc_apply.specs.Meaning.{kept_of}
use Rattle.eqc_apply.specs.Extending.{holding_in}
use Rattle.eqc_apply.specs.Referring.{entry_of}
use Rattle.eqc_apply.proofs.Kept.{cells_stay}
use Rattle.eqc_apply.proofs.Helping.{gained_held, kept_held, extends_keeps, name_held}
use Rattle.eqc_plain.proofs.Spending.{spends_as, spends_trans}
use Rattle.eqc_apply.proofs.applier.Applier.answer_with.Goals as goal

pub answer_task-requires-clause-g : goal.answer_task-requires-clause-g
answer_task-requires-clause-g g c = gained_held (entry_of c.in-Ok.second) _ c.in-Ok.ensures.ok

pub give_back-requires : goal.give_back-requires
give_back-requires g c = kept_held (entry_of c.in-Ok.second) c.answer_task.ensures.kept
    (gained_held (entry_of c.in-Ok.second) _ c.in-Ok.ensures.ok)

pub put_stop-requires-clause-f : goal.put_stop-requires-clause-f
put_stop-requires-clause-f g c = subst (λ (n : Held). IsHeld n.worker.known.core c.args.f.now.name)
    (sym c.in-Err.ensures.still) (name_held c.args.self.now.names c.args.f.now c.requires.f)

pub invariant_of-self-in-Err : goal.invariant_of-self-in-Err
invariant_of-self-in-Err g c =
    let s = c.args.self.now in
    record {
      cached =
          cells_stay c.refer.new.self c.put_stop.new.self s.cells.cells.items c.put_stop.ensures
          (subst (λ (n : Held). IsCache (kept_of n.variables n.worker.known) s.cells.cells.items)
          (sym c.in-Err.ensures.still) s.cached);
    }

pub returns-in-Err-clause-kept : goal.returns-in-Err-clause-kept
returns-in-Err-clause-kept g c =
    subst (λ (n : Held). Keeps (holding_in n) (holding_in c.put_stop.new.self))
    c.in-Err.ensures.still (extends_keeps c.refer.new.self c.put_stop.new.self
    c.put_stop.ensures)

pub returns-in-Ok-clause-turns : goal.returns-in-Ok-clause-turns
returns-in-Ok-clause-turns g c =
    spends_trans (spends_as c.args.self.now.names.turns c.refer.new.self.turns
    c.refer.ensures.turns) (spends_trans c.answer_task.ensures.turns c.give_back.ensures.turns)
