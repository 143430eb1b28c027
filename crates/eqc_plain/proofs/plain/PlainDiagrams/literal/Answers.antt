use Rattle.std.proofs.Common.{arith}
use Rattle.std.proofs.lemmas.Result.{IfOk-weaker}
use Rattle.eqc_plain.specs.Store.{holding_of}
use Rattle.eqc_plain.proofs.Trees.{root-constant}
use Rattle.eqc_plain.proofs.Meanings.{store_stays}
use Rattle.eqc_plain.proofs.Caching.{cache_stays}
use Rattle.eqc_plain.proofs.Extending.{keeps_then_gains, literal_value}
use Rattle.eqc_plain.proofs.plain.PlainDiagrams.literal.Goals as goal

pub node-requires-clause-above_low : goal.node-requires-clause-above_low
unfolding holding_of
node-requires-clause-above_low g c =
    let s = c.args.self.now.store in
    omega (arith, root-constant s.variables s.nodes 0 (omega arith), c.requires)

pub node-requires-clause-above_high : goal.node-requires-clause-above_high
unfolding holding_of
node-requires-clause-above_high g c =
    let s = c.args.self.now.store in
    omega (arith, root-constant s.variables s.nodes 1 (omega arith), c.requires)

pub invariant_of-self : goal.invariant_of-self
invariant_of-self g c =
    let s = c.args.self.now.store in
    let e = c.node.ensures.store in
    record {
      cached = cache_stays _ _ c.args.self.now.cache.cells.items
          (store_stays s c.node.new.self e) c.args.self.now.cached;
    }

pub invariant_of-self-2 : goal.invariant_of-self-2
invariant_of-self-2 g c =
    let s = c.args.self.now.store in
    let n = c.node.new.self in
    let e = c.node.ensures.store in
    let h = c.hold.ensures in
    let here = cache_stays _ _ c.args.self.now.cache.cells.items (store_stays s n e)
    c.args.self.now.cached in
    record { cached = rw (h.variables, h.nodes) here }

pub returns-clause-ok : goal.returns-clause-ok
returns-clause-ok g c =
    let n = c.node.new.self in
    IfOk-weaker c.hold.result _ _ (λ r h. keeps_then_gains _ _ _ _ _ _ c.node.ensures.store.keeps h
    (literal_value n.nodes n.variables c.args.var c.in_ok-x.x c.in_ok-x.ensures.ok))
    c.hold.ensures.ok
