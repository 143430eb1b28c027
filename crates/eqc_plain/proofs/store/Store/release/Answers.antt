use Rattle.std.proofs.Common.{◌<◌, length, arith}
use Rattle.std.proofs.lemmas.List.{get_or_default}
use Rattle.eqc_plain.proofs.Laws.{held_is, loses_constant, loses_read}
use Rattle.eqc_plain.proofs.store.Store.release.Goals as goal

pub returns-then-node-lt2-clause-loses : goal.returns-then-node-lt2-clause-loses
returns-then-node-lt2-clause-loses c =
    let s = c.args.self.now in
    loses_constant s.variables s.nodes _ s.counts.items c.args.r.node c.if-node-lt2.true

pub index-count-requires : goal.index-count-requires
index-count-requires c =
    let s = c.args.self.now in
    let k = held_is s.variables s.nodes _ s.counts.items _ c.requires in
    omega (arith, k.within, s.lawful.counted)

pub overflow_sub-count : goal.overflow_sub-count
overflow_sub-count c =
    let s = c.args.self.now in
    let k = held_is s.variables s.nodes _ s.counts.items _ c.requires in
    let room : c.args.r.node < length s.counts.items = omega (arith, k.within, s.lawful.counted) in
    omega (
      arith,
      k.counted c.if-node-lt2.false,
      c.index-count.ensures,
      get_or_default s.counts.items c.args.r.node c.index-count.result.now 0 room,
    )

pub index_mut-requires : goal.index_mut-requires
index_mut-requires c =
    let s = c.args.self.now in
    let k = held_is s.variables s.nodes _ s.counts.items _ c.requires in
    omega (arith, k.within, s.lawful.counted)

pub returns-clause-loses : goal.returns-clause-loses
returns-clause-loses c =
    let s = c.args.self.now in
    let k = held_is s.variables s.nodes _ s.counts.items _ c.requires in
    loses_read s.variables s.limit s.nodes _ s.counts.items c.args.r.node c.index-count.result.now
    s.lawful c.if-node-lt2.false k c.index-count.ensures
