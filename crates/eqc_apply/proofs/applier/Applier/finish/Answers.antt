use Rattle.eqc_plain.proofs.Combining.{both_fit, result_stays}
use Rattle.eqc_guard.specs.Known.{tree_of}
use Rattle.eqc_apply.proofs.Reading.{starts_below}
use Rattle.eqc_apply.proofs.Meanings.{extends_trans, names_stay, node_right}
use Rattle.eqc_apply.proofs.Kept.{cells_stay}
use Rattle.eqc_apply.proofs.applier.Applier.finish.Goals as goal

pub node-requires-clause-above_low : goal.node-requires-clause-above_low
node-requires-clause-above_low t c =
    let n = c.args.self.now.names in
    starts_below n.variables c.args.variable (tree_of n.worker.known c.args.low)
    (both_fit c.requires).above_low

pub node-requires-clause-above_high : goal.node-requires-clause-above_high
node-requires-clause-above_high t c =
    let n = c.args.self.now.names in
    starts_below n.variables c.args.variable (tree_of n.worker.known c.args.high)
    (both_fit c.requires).above_high

pub invariant_of-self : goal.invariant_of-self
invariant_of-self t c = record {
  cached = cells_stay c.args.self.now.names c.node.new.self
      c.args.self.now.cells.cells.items c.node.ensures.names c.args.self.now.cached;
}

pub keep-requires : goal.keep-requires
keep-requires t c = node_right c.args.self.now.names c.node.new.self c.args.op c.args.f c.args.g
    c.args.variable c.args.low c.args.high c.in_ok-x.x c.node.ensures.names c.requires
    c.in_ok-x.ensures.ok

pub returns-else-held-clause-names : goal.returns-else-held-clause-names
returns-else-held-clause-names t c = extends_trans c.args.self.now.names c.node.new.self
    c.keep.new.self.names c.node.ensures.names c.keep.ensures.names

pub invariant_of-self-then-shares : goal.invariant_of-self-then-shares
invariant_of-self-then-shares t c =
    record {
      cached = cells_stay c.keep.new.self.names c.share.new.self
          c.keep.new.self.cells.cells.items c.share.ensures.names c.keep.new.self.cached;
    }

pub returns-then-shares-clause-names : goal.returns-then-shares-clause-names
returns-then-shares-clause-names t c =
    extends_trans c.args.self.now.names c.keep.new.self.names c.share.new.self
    (extends_trans c.args.self.now.names c.node.new.self c.keep.new.self.names c.node.ensures.names
    c.keep.ensures.names) c.share.ensures.names

pub returns-then-shares-clause-ok : goal.returns-then-shares-clause-ok
returns-then-shares-clause-ok t c = result_stays (names_stay c.keep.new.self.names c.share.new.self
    c.share.ensures.names) c.keep.ensures.still
