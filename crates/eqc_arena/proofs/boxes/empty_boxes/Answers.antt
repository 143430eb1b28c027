use Rattle.std.proofs.Common.{◌≡◌, ap, arith}
use Rattle.eqc_core.specs.View.{View}
use Rattle.eqc_arena.proofs.Changing.{stays, still, here, ready_now, lengths_now}
use Rattle.eqc_arena.proofs.Unboxing.{none_unboxed, one_unboxed}
use Rattle.eqc_arena.proofs.boxes.empty_boxes.Goals as goal

pub loop-b-init : goal.loop-b-init
loop-b-init c = record {
  changes = stays c.args.worker.now c.recall_laws.ensures;
  empty =
      none_unboxed c.args.worker.now.known;
}

pub put-requires : goal.put-requires
put-requires c =
    let lt = c.loop-b-test.true in
    let end = c.boxes-b-end.ensures in
    let same : c.loop-b.worker.known.core.sizes.workers
    ≡ c.args.worker.now.known.core.sizes.workers = ap (λ (v : View). v.sizes.workers)
    c.loop-b.invariant.changes.core in
    let room = c.requires.room in
    record {
      ready = ready_now c.loop-b.invariant.changes c.requires.ready;
      there = omega arith;
      parcel_is = tt;
      room = omega (arith, lengths_now c.loop-b.invariant.changes);
    }

pub loop-b-preserved : goal.loop-b-preserved
loop-b-preserved c = record {
  changes = still c.loop-b.invariant.changes (here c.loop-b.invariant.changes
      c.put.ensures.changes);
  empty =
      one_unboxed c.loop-b.b c.args.worker.now.known c.loop-b.worker.known c.put.new.worker.known
      (ap (λ (v : View). v.sizes) c.loop-b.invariant.changes.core) c.loop-b.invariant.empty
      c.put.ensures.sets;
}
