use Rattle.std.proofs.Common.{[]}
use Rattle.eqc_arena.specs.Changing.{Exchanges}
use Rattle.eqc_arena.proofs.Changing.{still, here}
use Rattle.eqc_arena.proofs.Asking.{asks_still, later_given}
use Rattle.eqc_arena.proofs.making.insist.Goals as goal

pub attempt_after-requires-2-clause-may : goal.attempt_after-requires-2-clause-may
attempt_after-requires-2-clause-may g c =
    let t : Exchanges [] [] c.args.worker.now c.attempt_after.new.worker =
    c.in-Err-NodeLimit.ensures.still in
    asks_still c.args.var c.args.low.now.number c.args.high.now.number c.args.worker.now
    c.attempt_after.new.worker c.requires.may t

pub returns-in_default-attempt_after : goal.returns-in_default-attempt_after
returns-in_default-attempt_after g c =
    let t : Exchanges [] [] c.args.worker.now c.attempt_after.new.worker =
    c.in-Err-NodeLimit.ensures.still in
    later_given c.args.var c.args.low.now.number c.args.high.now.number c.args.worker.now
    c.attempt_after.new.worker t c.requires.may c.attempt_after-2.new.worker _
    c.in_default-attempt_after.ensures

pub returns-in_default-attempt_after-2 : goal.returns-in_default-attempt_after-2
returns-in_default-attempt_after-2 g c =
    let t : Exchanges [] [] c.args.worker.now c.attempt_after.new.worker =
    c.in-Err-NodeLimit.ensures.still in
    later_given c.args.var c.args.low.now.number c.args.high.now.number c.args.worker.now
    c.attempt_after.new.worker t c.requires.may
    c.attempt_after-2.new.worker c.attempt_after-2.result c.attempt_after-2.ensures

pub attempt_after-requires-3-clause-may : goal.attempt_after-requires-3-clause-may
attempt_after-requires-3-clause-may g c =
    let t : Exchanges [] [] c.args.worker.now c.attempt_after.new.worker =
    c.in-Err-NodeLimit.ensures.still in
    let u : Exchanges [] [] c.args.worker.now c.attempt_after-2.new.worker =
    still t (here t c.in-Err-NodeLimit-attempt_after.ensures.still) in
    asks_still c.args.var c.args.low.now.number c.args.high.now.number c.args.worker.now
    c.attempt_after-2.new.worker c.requires.may u

pub returns : goal.returns
returns g c =
    let t : Exchanges [] [] c.args.worker.now c.attempt_after.new.worker =
    c.in-Err-NodeLimit.ensures.still in
    let u : Exchanges [] [] c.args.worker.now c.attempt_after-2.new.worker =
    still t (here t c.in-Err-NodeLimit-attempt_after.ensures.still) in
    later_given c.args.var c.args.low.now.number c.args.high.now.number c.args.worker.now
    c.attempt_after-2.new.worker u c.requires.may
    c.attempt_after-3.new.worker c.attempt_after-3.result c.attempt_after-3.ensures
