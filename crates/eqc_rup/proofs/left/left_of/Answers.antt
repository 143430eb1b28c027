use Rattle.std.proofs.Common.{sym}
use Rattle.eqc_rup.proofs.LeftLemmas.{nothing_seen, one_kept, false_kept}
use Rattle.eqc_rup.proofs.left.left_of.Goals as goal
use Rattle.eqc_rup.proofs.left.left_of.Goals.{then-not-is_false+else-is_some, else-not-is_false}

pub loop-l-init : goal.loop-l-init
loop-l-init c = nothing_seen c.args.clause.now c.args.falsified.now

pub loop-l-preserved : goal.loop-l-preserved
loop-l-preserved c =
    let clause = c.args.clause.now in
    let i = c.loop-l.l-index in
    elim c.if-not-is_false.branch [
      | then-not-is_false+else-is_some w ↦ one_kept clause c.args.falsified.now i c.loop-l.left _
          c.loop-l-test.true (sym w.if-is_some.ensures) w.left-is c.loop-l.invariant
      | else-not-is_false w ↦ false_kept clause c.args.falsified.now i c.loop-l.left _
          c.loop-l-test.true (c.is_false.ensures w.if-not-is_false.false) w.left-is c.loop-l.invariant
    ]
