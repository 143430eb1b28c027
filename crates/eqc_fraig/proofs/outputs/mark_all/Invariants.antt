use Rattle.eqc_compare.specs.Alike.{IsKnown}
use Rattle.eqc_literals.specs.Literals.{KeepsMarks}
use Rattle.eqc_fraig.proofs.outputs.mark_all.Given as goal

abbrev pub invariant-loop-twins : goal.invariant-loop-twins
invariant-loop-twins l = record {
  known : IsKnown l.steps.pair l.alike;
  kept : KeepsMarks l.steps.pair l.initial.alike.equal.items l.alike.equal.items;
}
