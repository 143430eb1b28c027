use Rattle.eqc_plain.specs.Meaning.{meaning_of}
use Rattle.eqc_plain.proofs.Combining.{both_fit, both_stay, combined}
use Rattle.eqc_plain.proofs.Meanings.{store_stays, whole_of}
use Rattle.eqc_plain.proofs.Caching.{cache_stays, no_more_right, kept_right}
use Rattle.eqc_plain.proofs.plain.Plain.finish.Goals as goal

pub node-requires-clause-above_low : goal.node-requires-clause-above_low
node-requires-clause-above_low c = (both_fit c.requires).above_low

pub node-requires-clause-above_high : goal.node-requires-clause-above_high
node-requires-clause-above_high c = (both_fit c.requires).above_high

pub invariant_of-self : goal.invariant_of-self
invariant_of-self c =
    let s = c.args.self.now in
    record {
      cached = cache_stays _ _ s.cache.cells.items (store_stays s.store c.node.new.self
          c.node.ensures.store) s.cached;
    }

pub invariant_of-self-3 : goal.invariant_of-self-3
invariant_of-self-3 c =
    let s = c.args.self.now in
    let n = c.node.new.self in
    let m = meaning_of n.variables n.nodes in
    let e = store_stays s.store n c.node.ensures.store in
    let grown = c.grow.new.self.cells.items in
    let right = combined m c.args.op c.args.variable c.args.f c.args.g c.args.low c.args.high
    c.in_ok-x.x (both_stay e c.requires) (whole_of c.in_ok-x.ensures.ok) in
    record {
      cached =
          kept_right m grown c.keep.new.self.cells.items c.args.op c.args.f c.args.g c.in_ok-x.x
          c.keep.ensures right
          (no_more_right m s.cache.cells.items grown c.grow.ensures
          (cache_stays _ _ s.cache.cells.items e s.cached));
    }

pub returns-clause-ok : goal.returns-clause-ok
returns-clause-ok c =
    let s = c.args.self.now.store in
    let n = c.node.new.self in
    combined (meaning_of n.variables n.nodes) c.args.op c.args.variable c.args.f c.args.g c.args.low
    c.args.high c.in_ok-x.x
    (both_stay (store_stays s n c.node.ensures.store) c.requires) (whole_of c.in_ok-x.ensures.ok)
