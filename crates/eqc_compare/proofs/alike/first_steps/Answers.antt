use Rattle.std.proofs.Common.{◌≡◌, refl, ◌∙◌}
use Rattle.eqc_compare.proofs.AlikeLaws.{row_of, row_within, first_shared}
use Rattle.eqc_compare.proofs.alike.first_steps.Goals as goal

pub first_of_class-requires-clause-within : goal.first_of_class-requires-clause-within
first_of_class-requires-clause-within c =
    let p = c.args.pair.now in
    let row_is : c.deref.result.now ≡ row_of p c.args.classes.now = c.deref.ensures.value
    ∙ (c.in_ok-append_classes-2.ensures
    ∙ rw (
      c.in_ok-append_classes.ensures,
      c.new-row.ensures.items,
      c.first.ensures,
      c.steps.ensures.steps,
      c.first-2.ensures,
      c.second.ensures,
      c.steps-2.ensures.steps,
      c.second-2.ensures,
    )
    refl) in
    rw (c.count.ensures, row_is) (λ k lt. row_within p c.args.classes.now k c.recall_laws.ensures
    c.requires.classes lt)

pub returns : goal.returns
returns c =
    let p = c.args.pair.now in
    let row_is : c.deref.result.now ≡ row_of p c.args.classes.now = c.deref.ensures.value
    ∙ (c.in_ok-append_classes-2.ensures
    ∙ rw (
      c.in_ok-append_classes.ensures,
      c.new-row.ensures.items,
      c.first.ensures,
      c.steps.ensures.steps,
      c.first-2.ensures,
      c.second.ensures,
      c.steps-2.ensures.steps,
      c.second-2.ensures,
    )
    refl) in
    first_shared p c.args.classes.now c.deref.result.now c.in_ok-chosen.chosen.items
    c.recall_laws.ensures c.requires.classes row_is c.in_ok-chosen.ensures
