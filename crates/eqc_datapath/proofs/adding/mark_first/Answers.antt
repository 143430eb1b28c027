use Rattle.eqc_datapath.proofs.AddingLaws.{marking_more}
use Rattle.eqc_datapath.proofs.adding.mark_first.Goals as goal

pub loop-k-preserved : goal.loop-k-preserved
loop-k-preserved c =
    marking_more c.args.word.now c.args.count c.args.alike.now c.loop-k.alike c.mark.new.alike
    c.loop-k.k c.loop-k-test.true c.mark.ensures.equal c.mark.ensures.chosen c.loop-k.invariant
