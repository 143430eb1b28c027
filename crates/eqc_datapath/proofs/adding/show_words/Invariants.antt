use Rattle.eqc_compare.specs.Alike.{IsKnown}
use Rattle.eqc_literals.specs.Literals.{IsInside, KeepsMarks}
use Rattle.eqc_datapath.proofs.adding.show_words.Given as goal

abbrev pub invariant-loop-k : goal.invariant-loop-k
invariant-loop-k g l = record {
  inside : IsInside l.task.steps.now l.sums.reduction.sweep l.literals;
  known : IsKnown l.task.steps.now.pair l.alike;
  kept : KeepsMarks l.task.steps.now.pair l.initial.alike.equal.items l.alike.equal.items;
}
