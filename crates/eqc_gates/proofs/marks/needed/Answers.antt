use Rattle.std.proofs.Common.{◌≡◌, ◌+◌, ◌-◌, ◌<◌, get_or, ap, subst, arith}
use Rattle.eqc_build.specs.Steps.{steps_in}
use Rattle.eqc_build.proofs.StepLaws.{uses_within, root_first, root_second, first_root_within}
use Rattle.eqc_build.proofs.StepLaws.{second_root_within}
use Rattle.eqc_gates.proofs.MarkLaws.{AreClosedFrom, roots_more, roots_same, closed_more}
use Rattle.eqc_gates.proofs.marks.needed.Goals as goal
use Rattle.eqc_gates.proofs.marks.needed.Goals.{then-outputs-output, else-outputs-output}

pub mark_both-requires-clause-first : goal.mark_both-requires-clause-first
mark_both-requires-clause-first c =
    omega (
      arith,
      ap (λ rs. get_or rs 0 0) c.roots.ensures,
      root_first c.args.steps.now c.loop-output.output,
      first_root_within c.args.steps.now c.loop-output.output c.len-count.ensures.lawful
          (omega (arith, c.loop-output-test.true, c.requires)),
      c.loop-output.invariant.size,
    )

pub mark_both-requires-clause-second : goal.mark_both-requires-clause-second
mark_both-requires-clause-second c =
    omega (
      arith,
      ap (λ rs. get_or rs 1 0) c.roots.ensures,
      root_second c.args.steps.now c.loop-output.output,
      second_root_within c.args.steps.now c.loop-output.output c.len-count.ensures.lawful
          (omega (arith, c.loop-output-test.true, c.requires)),
      c.loop-output.invariant.size,
    )

pub loop-output-preserved : goal.loop-output-preserved
loop-output-preserved c = elim c.if-outputs-output.branch [
  | then-outputs-output w ↦
      rw w.marks-is
      (roots_more c.args.steps.now c.args.outputs.now c.loop-output.marks.items
      w.mark_both.new.marks.items c.loop-output.output
      w.roots.result c.loop-output.invariant w.roots.ensures w.mark_both.ensures)
  | else-outputs-output w ↦ rw w.marks-is (roots_same c.args.steps.now c.args.outputs.now
      c.loop-output.marks.items c.loop-output.output c.loop-output.invariant
      w.if-outputs-output.false)
]

pub index-requires : goal.index-requires
index-requires c = omega (
  arith,
  c.steps.invariant.inside,
  c.steps.invariant.size,
  c.steps.marks.ok.0,
  c.steps-test.true,
)

pub uses-requires : goal.uses-requires
uses-requires c = omega (arith, c.steps.invariant.inside, c.steps-test.true)

pub mark_all-requires : goal.mark_all-requires
mark_all-requires c =
    let inside : c.steps.step - 1 < steps_in c.args.steps.now.pair =
    omega (arith, c.steps.invariant.inside, c.steps-test.true) in
    rw c.uses.ensures (λ k lt. omega (
      arith,
      uses_within c.args.steps.now (c.steps.step - 1) k
          c.len-count.ensures.lawful inside lt,
      c.steps.invariant.size,
    ))

pub steps-preserved-then-index : goal.steps-preserved-then-index
steps-preserved-then-index c =
    let inside : c.steps.step - 1 < steps_in c.args.steps.now.pair =
    omega (arith, c.steps.invariant.inside, c.steps-test.true) in
    let back : c.steps.step ≡ c.steps.step - 1 + 1 = omega (arith, c.steps-test.true) in
    closed_more c.args.steps.now c.args.outputs.now c.steps.marks.items c.mark_all.new.marks.items
    (c.steps.step - 1) c.len-count.ensures.lawful inside
    (subst (λ k. AreClosedFrom c.args.steps.now c.args.outputs.now c.steps.marks.items k) back
    c.steps.invariant) (rw c.uses.ensures at c.mark_all.ensures)
