use Rattle.std.proofs.Common.{sym, subst}
use Rattle.eqc_arena.specs.Nodes.{MayCount}
use Rattle.eqc_arena.proofs.References.{held_counts}
use Rattle.eqc_arena.proofs.nodes.copy.Goals as goal

pub count-requires-clause-may : goal.count-requires-clause-may
count-requires-clause-may c = subst (λ n. MayCount c.args.worker.now.known.core n)
    (sym c.number.ensures) (held_counts c.args.worker.now.known c.args.f.now.number c.requires.held)
