use Rattle.eqc_apply.specs.Referring.{entry_of}
use Rattle.eqc_apply.proofs.Kept.{cells_stay}
use Rattle.eqc_apply.proofs.Helping.{keeps_trans, kept_again, gained_held, gained_still, kept_held}
use Rattle.eqc_apply.proofs.Helping.{extends_keeps, name_held, says_right}
use Rattle.eqc_plain.proofs.Spending.{spends_trans}
use Rattle.eqc_apply.proofs.applier.Applier.answer_task.Goals as goal

pub put_done-requires-clause-f : goal.put_done-requires-clause-f
put_done-requires-clause-f g c = name_held c.apply_forked.new.self.names c.args.f.now
    (gained_still (entry_of c.in-Ok.r) (entry_of c.args.f.now) _ c.in-Ok.ensures.ok c.requires.f)

pub put_done-requires-clause-g : goal.put_done-requires-clause-g
put_done-requires-clause-g g c = name_held c.apply_forked.new.self.names c.args.g.now
    (gained_still (entry_of c.in-Ok.r) (entry_of c.args.g.now) _ c.in-Ok.ensures.ok c.requires.g)

pub put_done-requires-clause-x : goal.put_done-requires-clause-x
put_done-requires-clause-x g c = name_held c.apply_forked.new.self.names c.in-Ok.r
    (gained_held (entry_of c.in-Ok.r) _ c.in-Ok.ensures.ok)

pub put_done-requires-clause-right : goal.put_done-requires-clause-right
put_done-requires-clause-right g c =
    let r = entry_of c.in-Ok.r in
    let e = c.in-Ok.ensures.ok in
    says_right c.apply_forked.new.self.names c.args.op c.args.f.now c.args.g.now c.in-Ok.r
    (gained_still r (entry_of c.args.f.now) _ e c.requires.f)
    (gained_still r (entry_of c.args.g.now) _ e c.requires.g) (gained_held r _ e)
    e.function

pub invariant_of-self : goal.invariant_of-self
invariant_of-self g c = let s = c.apply_forked.new.self in
    record {
      cached = cells_stay s.names c.put_done.new.self s.cells.cells.items c.put_done.ensures
          s.cached;
    }

pub give_back-requires : goal.give_back-requires
give_back-requires g c = kept_held (entry_of c.in-Ok.r) (extends_keeps c.apply_forked.new.self.names
    c.put_done.new.self c.put_done.ensures) (gained_held (entry_of c.in-Ok.r) _ c.in-Ok.ensures.ok)

pub put_stop-requires-clause-f : goal.put_stop-requires-clause-f
put_stop-requires-clause-f g c = name_held c.apply_forked.new.self.names c.args.f.now
    (kept_held (entry_of c.args.f.now) c.in-Err.ensures.stop c.requires.f)

pub put_stop-requires-clause-g : goal.put_stop-requires-clause-g
put_stop-requires-clause-g g c = name_held c.apply_forked.new.self.names c.args.g.now
    (kept_held (entry_of c.args.g.now) c.in-Err.ensures.stop c.requires.g)

pub invariant_of-self-in-Err : goal.invariant_of-self-in-Err
invariant_of-self-in-Err g c = let s = c.apply_forked.new.self in
    record {
      cached = cells_stay s.names c.put_stop.new.self s.cells.cells.items c.put_stop.ensures
          s.cached;
    }

pub returns-in-Ok-clause-kept : goal.returns-in-Ok-clause-kept
returns-in-Ok-clause-kept g c = kept_again (entry_of c.in-Ok.r) _ c.in-Ok.ensures.ok
    (extends_keeps c.apply_forked.new.self.names c.put_done.new.self c.put_done.ensures)
    c.give_back.ensures.loses

pub returns-in-Err-clause-kept : goal.returns-in-Err-clause-kept
returns-in-Err-clause-kept g c =
    keeps_trans c.in-Err.ensures.stop (extends_keeps c.apply_forked.new.self.names
    c.put_stop.new.self c.put_stop.ensures)

pub returns-in-Ok-clause-turns : goal.returns-in-Ok-clause-turns
returns-in-Ok-clause-turns g c = spends_trans c.apply_forked.ensures.turns
    (spends_trans c.put_done.ensures.turns c.give_back.ensures.turns)

pub returns-in-Err-clause-turns : goal.returns-in-Err-clause-turns
returns-in-Err-clause-turns g c = spends_trans c.apply_forked.ensures.turns c.put_stop.ensures.turns
