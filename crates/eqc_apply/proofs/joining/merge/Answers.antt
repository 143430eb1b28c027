use Rattle.std.proofs.Common.{arith}
use Rattle.eqc_apply.proofs.Merging.{merges_trans, ordered_has, ordered_refs, one_left, all_empty}
use Rattle.eqc_apply.proofs.Merging.{done_more, merged_all}
use Rattle.eqc_apply.proofs.joining.merge.Goals as goal

pub merge_one-requires-clause-has : goal.merge_one-requires-clause-has
merge_one-requires-clause-has c =
    let n = c.requires.has.0 in (
      n,
      c.loop-place.invariant.has n
          (ordered_has n c.args.worker.now c.args.counts.now.items c.args.more.items
          c.keep_longer-rest.new.counts.items
          c.keep_longer-rest.result.items c.keep_longer-rest.ensures.both c.requires.has.1),
    )

pub merge_one-requires-clause-few : goal.merge_one-requires-clause-few
merge_one-requires-clause-few c = λ x.
    omega (
      arith,
      c.loop-place.invariant.merges.references x,
      ordered_refs c.args.counts.now.items c.args.more.items c.keep_longer-rest.new.counts.items
          c.keep_longer-rest.result.items c.keep_longer-rest.ensures.both x,
      c.requires.few x,
    )

pub loop-place-preserved : goal.loop-place-preserved
loop-place-preserved c =
    let i = c.loop-place.invariant in
    let e = c.merge_one.ensures in
    let t = merges_trans i.merges e.merges in
    record {
      has = λ n h. e.has n (i.has n h);
      merges = record {
        forest = t.forest;
        seat = t.seat;
        before = t.before;
        references =
            t.references;
        lengths = t.lengths;
        left_lengths = t.left_lengths;
      };
      done = done_more c.loop-place.place c.loop-place.rest.items c.merge_one.new.more.items i.done
          e.gone e.others;
    }

pub returns-clause-has : goal.returns-clause-has
returns-clause-has c = λ n h.
    let i = c.loop-place.invariant in
    one_left n c.loop-place.worker c.loop-place.counts.items c.loop-place.rest.items
    (all_empty c.loop-place.place c.loop-place.rest.items
    (let e = c.loop-place-test.false in let p = c.loop-place.auto.place-end in let l =
    i.merges.left_lengths in let z = c.len-place-end.ensures in omega arith)
    i.done)
    (i.has n (ordered_has n c.args.worker.now c.args.counts.now.items c.args.more.items
    c.keep_longer-rest.new.counts.items c.keep_longer-rest.result.items
    c.keep_longer-rest.ensures.both h))

pub returns-clause-merged : goal.returns-clause-merged
returns-clause-merged c =
    let i = c.loop-place.invariant in
    merged_all c.args.counts.now.items c.args.more.items c.keep_longer-rest.new.counts.items
    c.keep_longer-rest.result.items
    c.loop-place.counts.items c.loop-place.rest.items c.args.worker.now c.loop-place.worker
    c.keep_longer-rest.ensures.both i.merges
    (all_empty c.loop-place.place c.loop-place.rest.items
    (let e = c.loop-place-test.false in let p = c.loop-place.auto.place-end in let l =
    i.merges.left_lengths in let z = c.len-place-end.ensures in omega arith)
    i.done)
