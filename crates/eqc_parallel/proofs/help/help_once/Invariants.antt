use Rattle.eqc_tree.specs.Holding.{Keeps}
use Rattle.eqc_parallel.proofs.help.help_once.Given as goal

abbrev pub invariant-loop : goal.invariant-loop
invariant-loop g l = Keeps (g.D.References.holding l.fn.diagrams) (g.D.References.holding
    l.diagrams)
