use Rattle.std.proofs.Common.{◌≡◌, ◌<◌, arith, subst}
use Rattle.eqc_build.specs.Steps.{steps_in}
use Rattle.eqc_fraig.proofs.AlongLaws.{IsAlong, along_begins, along_more, along_all}
use Rattle.eqc_fraig.proofs.inner.chosen_along.Goals as goal

pub loop-k-init : goal.loop-k-init
loop-k-init c = rw (c.in_ok-more.ensures.items) (along_begins c.args.steps.now.pair)

pub loop-k-preserved : goal.loop-k-preserved
loop-k-preserved c =
    rw (c.in_ok-push.ensures.items)
    (along_more c.args.steps.now.pair c.args.first.now c.args.then.now c.loop-k.more.items
    c.loop-k.k c.chosen_for-step.result c.chosen_for-next.result c.requires.first c.requires.then
    (omega (arith, c.len-k-end.ensures.count, c.loop-k-test.true)) c.chosen_for-step.ensures
    c.chosen_for-next.ensures c.loop-k.invariant)
