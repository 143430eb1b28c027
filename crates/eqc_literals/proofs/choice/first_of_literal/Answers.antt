use Rattle.std.proofs.Common.{arith, sym}
use Rattle.eqc_literals.proofs.LiteralLaws.{chosen_by, chosen_without}
use Rattle.eqc_literals.proofs.choice.first_of_literal.Goals as goal

pub loop-k-preserved-in_default : goal.loop-k-preserved-in_default
loop-k-preserved-in_default c =
    rw c.in_ok-push.ensures.items
    (chosen_without c.args.steps.now.pair c.args.chosen.now c.args.literals.now
    c.loop-k.firsts.items c.loop-k.more.items c.loop-k.k c.chosen_for-step.result c.requires.choice
    (omega (arith, c.len-k-end.ensures.count, c.loop-k-test.true))
    c.chosen_for-step.ensures c.loop-k.invariant)

pub loop-k-preserved : goal.loop-k-preserved
loop-k-preserved c =
    rw (c.in_ok-push-2.ensures.items, c.first_with.ensures.noted)
    (chosen_by c.args.steps.now.pair c.args.chosen.now c.args.literals.now c.loop-k.firsts.items
    c.loop-k.more.items c.loop-k.k
    c.chosen_for-step.result c.in-Some.literal c.first_with.result c.requires.choice
    c.requires.tell
    (omega (arith, c.len-k-end.ensures.count, c.loop-k-test.true))
    c.chosen_for-step.ensures (sym c.in-Some.ensures) c.first_with.ensures.first
    c.loop-k.invariant)
