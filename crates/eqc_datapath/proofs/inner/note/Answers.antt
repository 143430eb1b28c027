use Rattle.std.proofs.Common.{◌≡◌, ◌∙◌, ◌<◌, length, set, Some, arith, rules}
use Rattle.std.proofs.lemmas.List.{length-set}
use Rattle.eqc_build.specs.Building.{reference_of}
use Rattle.eqc_build.specs.Steps.{value_at}
use Rattle.eqc_datapath.proofs.InnerLaws.{literals_set, entry_has}
use Rattle.eqc_datapath.proofs.inner.note.Goals as goal
use Rattle.eqc_datapath.proofs.inner.note.Goals.{in-Some, in_default}

pub steps-preserved : goal.steps-preserved
steps-preserved c = elim c.match-standing_for.branch [
  | in-Some w ↦
      let shown = c.steps.shown.items in
      let step = c.steps.step in
      let literal = w.in-Some.literal in
      let set_is : c.match-standing_for.shown.items ≡ set shown step (Some literal) = search rules
      in
      let read : c.flatten-literal.result ≡ reference_of c.args.literals.now step = search rules in
      let inside : step < length shown = omega (
        arith,
        c.steps-test.true,
        c.len-step-end.ensures,
        c.steps.invariant.size,
      ) in
      record {
        size = rw set_is (length-set shown step (Some literal) ∙ c.steps.invariant.size);
        literals = λ p nodes within equal are before. rw set_is
            (literals_set p nodes shown step literal (c.steps.invariant.literals p nodes within
            equal are before)
            (w.in-Some.ensures nodes (λ a. value_at p a step) within equal
            (entry_has p nodes c.args.literals.now step c.flatten-literal.result are read))
            inside);
      }
  | in_default w ↦ rw w.shown-is c.steps.invariant
]
