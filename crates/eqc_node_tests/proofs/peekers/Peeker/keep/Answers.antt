use Rattle.std.proofs.Common.{ℕ, ap, sym, subst, ◌∙◌, ◌<◌, arith}
use mathlib.Core.Option.{some}
use Rattle.eqc_core.proofs.Lists.{get_at}
use Rattle.eqc_cache.specs.Peeking.{IsKept}
use Rattle.eqc_node_tests.proofs.Peeking.{each_out, peeks_kept}
use Rattle.eqc_node_tests.proofs.peekers.Peeker.keep.Goals as goal

pub keep-requires-clause-out : goal.keep-requires-clause-out
keep-requires-clause-out g c =
    let s = c.args.self.now in
    let p = c.index.result.now in
    each_out s.references.items s.snapshots.items s.worker s.peeking c.args.place p
    (get_at s.snapshots.items c.args.place p (omega arith) ∙ ap some (sym c.index.ensures))

pub invariant_of-self : goal.invariant_of-self
invariant_of-self g c =
    let s = c.args.self.now in
    let kept = subst (λ (x : ℕ). IsKept x s.worker c.keep.new.worker) (sym c.in-Ok.ensures.name)
    c.in-Ok.ensures.kept in
    record {
      peeking = peeks_kept s.references.items s.snapshots.items s.worker s.peeking
          c.in-Ok.reference c.keep-2.new.references.items c.keep.new.worker kept c.keep-2.ensures;
    }
