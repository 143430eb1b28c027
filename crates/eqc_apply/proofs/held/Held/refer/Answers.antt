use Rattle.std.proofs.Common.{sym, subst, arith}
use Rattle.eqc_tree.specs.Holding.{Gains, says}
use Rattle.eqc_guard.specs.Standing.{Standing}
use Rattle.eqc_apply.specs.Extending.{entry_in, holding_in}
use Rattle.eqc_apply.proofs.Holdings.{counted_some, counted_within, gains_constant, refers_has}
use Rattle.eqc_apply.proofs.Holdings.{refers_gains, refers_full}
use Rattle.eqc_apply.proofs.held.Held.refer.Goals as goal

pub returns-then-x-lt2-clause-ok : goal.returns-then-x-lt2-clause-ok
returns-then-x-lt2-clause-ok c =
    let s = c.args.self.now in
    subst (λ (t : Standing). Gains (holding_in s) (holding_in s) (entry_in t.known c.args.x)
    (says (entry_in s.worker.known c.args.x)))
    (sym c.of-at.ensures) (gains_constant s.variables s.worker.known s.counts.items c.args.x
    c.if-x-lt2.true)

pub index-count-requires : goal.index-count-requires
index-count-requires c = let s = c.args.self.now in
    omega (
      arith,
      counted_within s.counts.items c.args.x (counted_some s.variables s.worker
          s.counts.items c.args.x s.once c.if-x-lt2.false c.requires),
    )

pub returns-then-count-from-clause-full : goal.returns-then-count-from-clause-full
returns-then-count-from-clause-full c =
    let s = c.args.self.now in
    refers_full s.variables s.worker s.counts.items c.args.x c.index-count.result.now s.once
    c.if-x-lt2.false
    (counted_some s.variables s.worker s.counts.items c.args.x s.once c.if-x-lt2.false c.requires)
    c.index-count.ensures
    (let t = c.if-count-from.true in let f = c.from.ensures in omega arith)

pub index_mut-requires : goal.index_mut-requires
index_mut-requires c = let s = c.args.self.now in
    omega (
      arith,
      counted_within s.counts.items c.args.x (counted_some s.variables s.worker
          s.counts.items c.args.x s.once c.if-x-lt2.false c.requires),
    )

pub invariant_of-self : goal.invariant_of-self
invariant_of-self c =
    let s = c.args.self.now in
    record {
      once =
          refers_has s.variables s.worker s.counts.items c.args.x c.index-count.result.now s.once
          c.if-x-lt2.false
          (counted_some s.variables s.worker s.counts.items c.args.x s.once c.if-x-lt2.false
          c.requires) c.index-count.ensures;
    }

pub returns-clause-ok : goal.returns-clause-ok
returns-clause-ok c =
    let s = c.args.self.now in
    refers_gains s.variables s.worker s.counts.items c.args.x c.index-count.result.now s.once
    c.if-x-lt2.false
    (counted_some s.variables s.worker s.counts.items c.args.x s.once c.if-x-lt2.false c.requires)
    c.index-count.ensures c.of-at.result.value
    c.of-at.ensures
