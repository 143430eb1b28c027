use Rattle.std.proofs.Common.{◌≡◌}
use Rattle.eqc_report.specs.Evaluation.{AreThere}
use Rattle.eqc_report.proofs.evaluating.Walk.ask.Given as goal

abbrev pub invariant-loop-k : goal.invariant-loop-k
invariant-loop-k l = record {
  asked : AreThere l.flat l.self.asked.items;
  values : l.self.values ≡ l.fn.self.values;
}
