use Rattle.std.proofs.Common.{ℕ, ap}
use Rattle.eqc_arena.proofs.Changing.{stays, reads}
use Rattle.eqc_node_tests.proofs.Making.{read_above}
use Rattle.eqc_node_tests.proofs.makers.starts_above.Goals as goal

pub returns-then-number-lt2-clause-changes : goal.returns-then-number-lt2-clause-changes
returns-then-number-lt2-clause-changes c = stays c.args.worker.now c.cells-cells.ensures.known

pub returns-then-var-root-clause-changes : goal.returns-then-var-root-clause-changes
returns-then-var-root-clause-changes c = reads c.args.node.now.number c.read_node.result
    c.args.worker.now c.read_node.new.self c.read_node.ensures.step

pub returns-clause-above : goal.returns-clause-above
returns-clause-above c =
    λ yes.
    read_above c.args.node.now.number c.read_node.result c.unpack_node-root.result.0 c.args.var
    c.args.worker.now c.read_node.new.self
    c.read_node.ensures.step c.requires.held c.read_node.ensures.tells
    (ap {B = ℕ} (λ (p : ℕ × ℕ × ℕ). p.0) c.unpack_node-root.ensures.fields)
    c.if-var-root.false

pub returns-clause-changes : goal.returns-clause-changes
returns-clause-changes c = reads c.args.node.now.number c.read_node.result c.args.worker.now
    c.read_node.new.self c.read_node.ensures.step
