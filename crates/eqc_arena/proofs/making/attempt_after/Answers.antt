use Rattle.eqc_arena.proofs.Asking.{asks_still, attempt_given}
use Rattle.eqc_arena.proofs.making.attempt_after.Goals as goal

pub attempt-requires-clause-may : goal.attempt-requires-clause-may
attempt-requires-clause-may g c = asks_still c.args.var c.args.low.now.number c.args.high.now.number
    c.args.worker.now c.take_back.new.worker c.requires.may c.take_back.ensures.changes

pub returns : goal.returns
returns g c =
    attempt_given c.args.var c.args.low.now.number c.args.high.now.number c.args.worker.now
    c.take_back.new.worker c.requires.may c.recall_laws.ensures c.requires.differ
    c.take_back.ensures.changes
    c.attempt.new.worker c.attempt.result c.attempt.ensures.hand c.attempt.ensures.made
    c.attempt.ensures.still c.attempt.ensures.full c.attempt.ensures.all c.attempt.ensures.only
