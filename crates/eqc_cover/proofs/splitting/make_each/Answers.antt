use Rattle.std.proofs.Common.{arith}
use Rattle.eqc_cover.proofs.SplitsLaws.{gathers_made, say_more}
use Rattle.eqc_cover.proofs.splitting.make_each.Goals as goal

pub loop-split-preserved : goal.loop-split-preserved
loop-split-preserved g c = record {
  gathers = gathers_made g.D.References.entry _ _ _ _ c.loop-split.made.items _ _ _
      c.in_ok-gather.ensures.ok c.loop-split.invariant.gathers c.in_ok-reference.ensures
      c.in_ok-gather.ensures.still;
  say = λ a.
      say_more g.D.References.entry c.loop-split.made.items _ _ c.args.splits.now
      c.loop-split.split-index _ c.args.columns.now a (omega arith)
      c.in_ok-gather.ensures.ok (c.loop-split.invariant.say a) (rw c.deref.ensures.value at
      (c.in_ok-reference.ensures.function a));
}
