use Rattle.eqc_build.specs.Turns.{MovesKept}
use Rattle.eqc_compare.proofs.ToldLaws.{AreToldBefore}
use Rattle.eqc_compare.proofs.compare.compare_in_turn.Given as goal

abbrev pub invariant-loop-output : goal.invariant-loop-output
invariant-loop-output g l = record {
  told : AreToldBefore l.schedule.plan.steps.pair l.schedule.every l.found.items l.output;
  moves : MovesKept g.D.References.entry l.schedule.plan.steps.pair (g.D.References.holding l.fn.d)
      l.fn.kept.table (g.D.References.holding l.d) l.kept.table;
}
