use Rattle.std.proofs.Common.{◌≡◌, ℕ, subst}
use Rattle.eqc_tree.specs.Tree.{Node}
use Rattle.eqc_guard.specs.Known.{tree_of}
use Rattle.eqc_arena.proofs.Changing.{still, here}
use Rattle.eqc_node_tests.proofs.Making.{right_and}
use Rattle.eqc_node_tests.proofs.makers.is_and.Goals as goal

pub returns-clause-right : goal.returns-clause-right
returns-clause-right c = λ yes.
    right_and c.args.var c.args.f.now.number c.args.g.now.number c.args.r.now.number
    c.args.worker.now c.reads_as.new.worker
    c.reads_as-2.new.worker c.requires.f c.requires.g c.reads_as.ensures.changes
    c.reads_as-2.ensures.changes
    (c.reads_as.ensures.tree c.if-not-reads_as.false)
    (subst
    (λ (n : ℕ). tree_of c.reads_as.new.worker.known c.args.r.now.number
    ≡ Node c.args.var (tree_of c.reads_as-2.new.worker.known 0)
    (tree_of c.reads_as-2.new.worker.known n))
    c.number.ensures (c.reads_as-2.ensures.tree c.if-not-reads_as-2.false))
    c.requires.r

pub returns-then-not-reads_as-2-clause-changes : goal.returns-then-not-reads_as-2-clause-changes
returns-then-not-reads_as-2-clause-changes c =
    still c.reads_as.ensures.changes (here c.reads_as.ensures.changes c.reads_as-2.ensures.changes)

pub returns-clause-changes : goal.returns-clause-changes
returns-clause-changes c = still c.reads_as.ensures.changes (here c.reads_as.ensures.changes
    c.reads_as-2.ensures.changes)
