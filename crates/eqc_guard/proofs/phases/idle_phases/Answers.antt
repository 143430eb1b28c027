use Rattle.std.proofs.Common.{length, ap, ◌∙◌, arith}
use Rattle.eqc_core.proofs.Phases.{idle-push, idle-length}
use Rattle.eqc_guard.proofs.phases.idle_phases.Goals as goal

pub push-requires : goal.push-requires
push-requires c =
    let e = ap length c.loop-k.invariant ∙ idle-length c.loop-k._k in
    let lt = c.loop-k-test.true in
    let few = c.requires in
    omega arith

pub loop-k-preserved : goal.loop-k-preserved
loop-k-preserved c = let e = idle-push c.loop-k._k in let i = c.push.ensures.items in let v =
    c.loop-k.invariant in cc
