use Rattle.eqc_arena.proofs.Changing.{stays, reads}
use Rattle.eqc_node_tests.proofs.Making.{reads_node}
use Rattle.eqc_node_tests.proofs.makers.reads_as.Goals as goal

pub returns-then-number-lt2-clause-changes : goal.returns-then-number-lt2-clause-changes
returns-then-number-lt2-clause-changes c = stays c.args.worker.now c.cells-cells.ensures.known

pub returns-then-root-var-clause-changes : goal.returns-then-root-var-clause-changes
returns-then-root-var-clause-changes c = reads c.args.node.now.number c.read_node.result
    c.args.worker.now c.read_node.new.self c.read_node.ensures.step

pub returns-clause-tree : goal.returns-clause-tree
returns-clause-tree c =
    λ yes.
    reads_node c.args.node.now.number c.read_node.result c.args.var c.args.low c.args.high
    c.unpack_node-root.result c.args.worker.now
    c.read_node.new.self c.read_node.ensures.tells c.unpack_node-root.ensures.fields
    c.if-root-var.false c.if-first-low.false
    c.if-second-high.false

pub returns-clause-changes : goal.returns-clause-changes
returns-clause-changes c = reads c.args.node.now.number c.read_node.result c.args.worker.now
    c.read_node.new.self c.read_node.ensures.step
