use Rattle.std.proofs.Common.{arith}
use Rattle.eqc_apply.proofs.Holdings.{counted_within, counted_of, referred, loses_constant}
use Rattle.eqc_apply.proofs.Holdings.{releases_some, releases_has, releases_loses}
use Rattle.eqc_apply.proofs.held.Held.release.Goals as goal

pub returns-then-name-lt2-clause-loses : goal.returns-then-name-lt2-clause-loses
returns-then-name-lt2-clause-loses c = let s = c.args.self.now in
    loses_constant s.variables s.worker.known s.counts.items c.args.r.name _ c.if-name-lt2.true

pub index-count-requires : goal.index-count-requires
index-count-requires c =
    let s = c.args.self.now in
    omega (
      arith,
      counted_within s.counts.items c.args.r.name
          (counted_of s.counts.items c.args.r.name
          ((referred s.variables s.worker.known c.args.r.at.value.known s.counts.items
          c.args.r.name c.requires).refs c.if-name-lt2.false)),
    )

pub overflow_sub-count : goal.overflow_sub-count
overflow_sub-count c =
    let s = c.args.self.now in
    let r = (referred s.variables s.worker.known c.args.r.at.value.known s.counts.items
    c.args.r.name c.requires) in
    releases_some s.variables s.worker s.counts.items c.args.r.name c.index-count.result.now s.once
    c.if-name-lt2.false
    (counted_of s.counts.items c.args.r.name
    ((referred s.variables s.worker.known c.args.r.at.value.known s.counts.items c.args.r.name
    c.requires).refs c.if-name-lt2.false))
    c.index-count.ensures (r.refs c.if-name-lt2.false)

pub index_mut-requires : goal.index_mut-requires
index_mut-requires c =
    let s = c.args.self.now in
    omega (
      arith,
      counted_within s.counts.items c.args.r.name
          (counted_of s.counts.items c.args.r.name
          ((referred s.variables s.worker.known c.args.r.at.value.known s.counts.items
          c.args.r.name c.requires).refs c.if-name-lt2.false)),
    )

pub invariant_of-self : goal.invariant_of-self
invariant_of-self c =
    let s = c.args.self.now in
    let r = (referred s.variables s.worker.known c.args.r.at.value.known s.counts.items
    c.args.r.name c.requires) in
    record {
      once =
          releases_has s.variables s.worker s.counts.items c.args.r.name c.index-count.result.now
          s.once c.if-name-lt2.false
          (counted_of s.counts.items c.args.r.name
          ((referred s.variables s.worker.known c.args.r.at.value.known s.counts.items
          c.args.r.name c.requires).refs c.if-name-lt2.false))
          c.index-count.ensures (r.refs c.if-name-lt2.false);
    }

pub returns-clause-loses : goal.returns-clause-loses
returns-clause-loses c =
    let s = c.args.self.now in
    let r = (referred s.variables s.worker.known c.args.r.at.value.known s.counts.items
    c.args.r.name c.requires) in
    releases_loses s.variables s.worker s.counts.items c.args.r.name c.index-count.result.now s.once
    c.if-name-lt2.false
    (counted_of s.counts.items c.args.r.name
    ((referred s.variables s.worker.known c.args.r.at.value.known s.counts.items c.args.r.name
    c.requires).refs c.if-name-lt2.false))
    c.index-count.ensures (r.refs c.if-name-lt2.false) _ r.tree
