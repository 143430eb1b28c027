use Rattle.std.proofs.Common.{arith}
use Rattle.eqc_node_tests.proofs.Making.{both_looks, may_ask, made_after, none_after}
use Rattle.eqc_node_tests.proofs.makers.made.Goals as goal

pub mk-requires : goal.mk-requires
mk-requires g c =
    may_ask c.args.var c.args.low.now.number c.args.high.now.number c.args.worker.now
    c.starts_above.new.worker c.starts_above-else-not-starts_above.new.worker c.requires.rest
    c.requires.cells
    (let few = c.requires.few in let lt = c.if-var-variables.false in omega arith)
    (let le = c.if-held-gt-MOST_HELD.false in let e = c.held.ensures in omega arith)
    c.requires.low c.requires.high c.starts_above.ensures.changes
    c.starts_above-else-not-starts_above.ensures.changes
    (c.starts_above.ensures.above c.if-not-starts_above.false)
    (c.starts_above-else-not-starts_above.ensures.above c.if-not-starts_above-2.false)

pub returns-clause-node : goal.returns-clause-node
returns-clause-node g c =
    made_after c.args.worker.now c.starts_above-else-not-starts_above.new.worker c.mk.new.worker
    c.mk.result
    (both_looks c.args.var c.args.low.now.number c.args.high.now.number c.args.worker.now
    c.starts_above.new.worker c.starts_above-else-not-starts_above.new.worker c.requires.rest
    c.requires.cells
    (let few = c.requires.few in let lt = c.if-var-variables.false in omega arith)
    (let le = c.if-held-gt-MOST_HELD.false in let e = c.held.ensures in omega arith)
    c.requires.low c.requires.high c.starts_above.ensures.changes
    c.starts_above-else-not-starts_above.ensures.changes)
    c.mk.ensures.node

pub returns-clause-still : goal.returns-clause-still
returns-clause-still g c =
    none_after c.args.worker.now c.starts_above-else-not-starts_above.new.worker c.mk.new.worker
    c.mk.result
    (both_looks c.args.var c.args.low.now.number c.args.high.now.number c.args.worker.now
    c.starts_above.new.worker c.starts_above-else-not-starts_above.new.worker c.requires.rest
    c.requires.cells
    (let few = c.requires.few in let lt = c.if-var-variables.false in omega arith)
    (let le = c.if-held-gt-MOST_HELD.false in let e = c.held.ensures in omega arith)
    c.requires.low c.requires.high c.starts_above.ensures.changes
    c.starts_above-else-not-starts_above.ensures.changes)
    c.mk.ensures.still
