use Rattle.eqc_arena.proofs.Changing.{stays, still, after_still, here}
use Rattle.eqc_apply.proofs.Handing.{marks_refl, marks_trans}
use Rattle.eqc_apply.proofs.boxes.wait_for.Goals as goal

pub loop-init : goal.loop-init
loop-init g c = record {
  changes = stays c.args.worker.now c.recall_laws.ensures;
  marks =
      marks_refl c.args.worker.now.known.core;
}

pub returns-in_default : goal.returns-in_default
returns-in_default g c =
    let e = c.take_now.ensures in
    record {
      came = after_still c.loop.invariant.changes e.came;
      right = e.right;
      marks =
          marks_trans c.loop.invariant.marks e.marks;
      noted = e.noted;
      whole = e.whole;
    }

pub loop-preserved : goal.loop-preserved
loop-preserved g c =
    record {
      changes = still c.loop.invariant.changes (here c.loop.invariant.changes
          c.in-Empty.ensures.came);
      marks = marks_trans c.loop.invariant.marks
          c.take_now.ensures.marks;
    }
