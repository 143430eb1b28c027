use Rattle.std.proofs.Common.{arith}
use Rattle.eqc_apply.proofs.Giving.{is_small, drops, drops_has}
use Rattle.eqc_apply.proofs.held.give_up_one.Goals as goal

pub overflow_cast-place : goal.overflow_cast-place
overflow_cast-place c =
    let s =
    is_small c.args.place c.requires.has.0 c.index.result.now c.args.counts.now.items
    c.args.worker.now c.requires.within c.index.ensures
    c.if-index-ne1.false c.requires.has.1 c.recall_laws.ensures in
    omega arith

pub returns-clause-has : goal.returns-clause-has
returns-clause-has c =
    λ n h.
    drops_has c.args.place n c.index.result.now c.args.counts.now.items c.args.worker.now
    c.requires.within c.index.ensures
    c.if-index-ne1.false h c.reference-name.result.number c.reference-name.ensures c.down.new.self
    c.recall_laws.ensures
    c.down.ensures.constant c.down.ensures.step

pub returns-clause-drops : goal.returns-clause-drops
returns-clause-drops c =
    drops c.args.place c.requires.has.0 c.index.result.now c.args.counts.now.items c.args.worker.now
    c.requires.within c.index.ensures
    c.if-index-ne1.false c.requires.has.1 c.reference-name.result.number c.reference-name.ensures
    c.down.new.self c.recall_laws.ensures
    c.down.ensures.constant c.down.ensures.step
