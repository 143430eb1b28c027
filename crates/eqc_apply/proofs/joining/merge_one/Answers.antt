use Rattle.std.proofs.Common.{◌+◌, ◌-◌, refl, arith}
use Rattle.eqc_apply.proofs.Merging.{moved_has, moved, first_is, second_is, merged_has, merged}
use Rattle.eqc_apply.proofs.Merging.{is_small}
use Rattle.eqc_apply.proofs.joining.merge_one.Goals as goal

pub overflow_cast-place : goal.overflow_cast-place
overflow_cast-place c =
    let s =
    is_small c.args.place c.requires.has.0 c.index-first.result.now c.index-second.result.now
    c.args.counts.now.items c.args.more.now.items
    c.args.worker.now c.requires.within c.requires.within_more c.index-first.ensures
    c.index-second.ensures c.if-second-eq0.false
    c.requires.has.1 c.if-first-eq0.false c.recall_laws.ensures in
    omega arith

pub overflow_add-first : goal.overflow_add-first
overflow_add-first c =
    let n = c.requires.has.0 in
    let a = c.args in
    omega (
      arith,
      c.requires.few a.place,
      c.if-first-eq0.false,
      first_is a.place n c.index-first.result.now c.index-second.result.now a.counts.now.items
          a.more.now.items a.worker.now c.requires.within
          c.requires.within_more c.index-first.ensures c.index-second.ensures c.if-second-eq0.false
          c.requires.has.1,
      second_is a.place n c.index-first.result.now c.index-second.result.now a.counts.now.items
          a.more.now.items a.worker.now c.requires.within
          c.requires.within_more c.index-first.ensures c.index-second.ensures c.if-second-eq0.false
          c.requires.has.1,
    )

pub returns-clause-has : goal.returns-clause-has
returns-clause-has c = λ n h.
    merged_has c.args.place n c.index-first.result.now c.index-second.result.now
    c.args.counts.now.items c.args.more.now.items c.args.worker.now
    c.requires.within c.requires.within_more c.index-first.ensures c.index-second.ensures
    c.if-second-eq0.false h c.if-first-eq0.false
    c.reference-name.result.number c.reference-name.ensures c.down.new.self c.recall_laws.ensures
    c.down.ensures.constant c.down.ensures.step
    (c.index-first.result.now + (c.index-second.result.now - 1)) refl

pub returns-clause-merges : goal.returns-clause-merges
returns-clause-merges c =
    merged c.args.place c.requires.has.0 c.index-first.result.now c.index-second.result.now
    c.args.counts.now.items c.args.more.now.items
    c.args.worker.now c.requires.within c.requires.within_more c.index-first.ensures
    c.index-second.ensures c.if-second-eq0.false c.requires.has.1
    c.if-first-eq0.false
    c.reference-name.result.number c.reference-name.ensures c.down.new.self c.recall_laws.ensures
    c.down.ensures.constant c.down.ensures.step
    (c.index-first.result.now + (c.index-second.result.now - 1)) refl

pub returns-then-first-eq0-clause-has : goal.returns-then-first-eq0-clause-has
returns-then-first-eq0-clause-has c = λ n h.
    moved_has c.args.place n c.index-first.result.now c.index-second.result.now
    c.args.counts.now.items c.args.more.now.items c.args.worker.now
    c.requires.within c.requires.within_more c.index-first.ensures c.index-second.ensures
    c.if-second-eq0.false h c.if-first-eq0.true

pub returns-then-first-eq0-clause-merges : goal.returns-then-first-eq0-clause-merges
returns-then-first-eq0-clause-merges c =
    moved c.args.place c.requires.has.0 c.index-first.result.now c.index-second.result.now
    c.args.counts.now.items c.args.more.now.items
    c.args.worker.now c.requires.within c.requires.within_more c.index-first.ensures
    c.index-second.ensures c.if-second-eq0.false c.requires.has.1
    c.if-first-eq0.true
