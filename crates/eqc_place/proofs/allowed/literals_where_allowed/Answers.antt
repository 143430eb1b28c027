use Rattle.std.proofs.Common.{sym}
use Rattle.eqc_place.proofs.AllowedLaws.{growing_none, growing_under}
use Rattle.eqc_place.proofs.allowed.literals_where_allowed.Goals as goal

pub loop-step-preserved : goal.loop-step-preserved
loop-step-preserved c =
    growing_under c.args.steps.now c.args.sweep.now c.loop-step.sweep c.under.new.sweep
    c.args.literals.now c.loop-step.table.items c.push-in-loop-step.new.self.items
    c.in-Some.root c.in-Some-literal_at.assumed c.loop-step.step c.in-Some-literal_at-2.literal
    c.in_ok-found.found
    c.len-count.ensures.lawful c.in-Some.ensures c.requires (sym c.in-Some-literal_at.ensures)
    (sym c.in-Some-literal_at-2.ensures) c.loop-step.invariant
    c.in_ok-found.ensures.extends c.in_ok-found.ensures.value c.in_ok-push-2.ensures.items

pub loop-step-preserved-in_default-literal_at-2 : goal.loop-step-preserved-in_default-literal_at-2
loop-step-preserved-in_default-literal_at-2 c =
    growing_none c.args.steps.now.pair c.args.sweep.now c.loop-step.sweep c.loop-step.table.items
    c.push.new.self.items c.loop-step.step c.loop-step.invariant
    c.in_ok-push.ensures.items
