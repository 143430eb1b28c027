use Rattle.std.proofs.Common.{◌≢◌, [], sym, ◌∙◌}
use Rattle.eqc_arena.specs.Changing.{Exchanges}
use Rattle.eqc_arena.proofs.Changing.{stays}
use Rattle.eqc_arena.proofs.Asking.{asks_still, later_given, attempt_given, copy_given}
use Rattle.eqc_arena.proofs.making.mk.Goals as goal

pub returns-then-number : goal.returns-then-number
returns-then-number g c =
    copy_given c.args.var c.args.low.now.number c.args.high.now.number c.args.worker.now
    c.copy.new.worker c.copy.result c.recall_laws.ensures
    (sym c.number.ensures ∙ (c.if-number.true ∙ c.number-2.ensures)) c.requires.low_held
    c.copy.ensures.name c.copy.ensures.copied c.copy.ensures.still c.copy.ensures.full
    c.copy.ensures.only

pub insist-requires-clause-may : goal.insist-requires-clause-may
insist-requires-clause-may g c =
    let t : Exchanges [] [] c.args.worker.now c.attempt.new.worker =
    c.in-Err-NodeLimit.ensures.still in
    asks_still c.args.var c.args.low.now.number c.args.high.now.number c.args.worker.now
    c.attempt.new.worker c.requires t

pub returns-in-Err-NodeLimit : goal.returns-in-Err-NodeLimit
returns-in-Err-NodeLimit g c =
    let t : Exchanges [] [] c.args.worker.now c.attempt.new.worker =
    c.in-Err-NodeLimit.ensures.still in
    later_given c.args.var c.args.low.now.number c.args.high.now.number c.args.worker.now
    c.attempt.new.worker t c.requires c.insist.new.worker c.insist.result c.insist.ensures

pub returns-in_default-2 : goal.returns-in_default-2
returns-in_default-2 g c =
    let differ : c.args.low.now.number ≢ c.args.high.now.number =
    λ e. c.if-number.false (c.number.ensures ∙ (e ∙ sym c.number-2.ensures)) in
    attempt_given c.args.var c.args.low.now.number c.args.high.now.number c.args.worker.now
    c.args.worker.now c.requires c.recall_laws.ensures differ (stays c.args.worker.now
    c.recall_laws.ensures)
    c.attempt.new.worker c.attempt.result c.attempt.ensures.hand c.attempt.ensures.made
    c.attempt.ensures.still c.attempt.ensures.full c.attempt.ensures.all c.attempt.ensures.only
