use Rattle.std.proofs.Common.{◌∙◌, refl, sym, true, false}
use Rattle.eqc_hierarchy.specs.Codes.{has_no_such_model, has_unknown_formal, has_formal_twice}
use Rattle.eqc_hierarchy.specs.Codes.{has_missing_formal}
use Rattle.eqc_hierarchy.proofs.ModelFaultLaws.{told, code_21, code_22, code_23, code_24, code_25}
use Rattle.eqc_hierarchy.proofs.model_faults.fault_of.Goals as goal

pub returns-then-branch : goal.returns-then-branch
returns-then-branch c =
    rw c.code.ensures
    (code_21 c.args.calls.now c.args.top
    (told has_no_such_model c.library-library.result.now c.args.calls.now c.args.models.now
    c.args.models.now c.args.top
    c.in_ok-has_no_such_model.field-0 true c.library-library.ensures refl
    c.in_ok-has_no_such_model.ensures c.requires.each
    c.if-branch.true))

pub returns-then-branch-2 : goal.returns-then-branch-2
returns-then-branch-2 c = rw c.code-then-branch-2.ensures (code_22 c.args.calls.now c.args.top
    (told has_no_such_model c.library-library.result.now c.args.calls.now c.args.models.now
    c.args.models.now c.args.top
    c.in_ok-has_no_such_model.field-0 false c.library-library.ensures refl
    c.in_ok-has_no_such_model.ensures c.requires.each
    c.if-branch.false)
    (sym c.in_ok-is_recursive.ensures ∙ c.if-branch-2.true))

pub returns-then-branch-3 : goal.returns-then-branch-3
returns-then-branch-3 c = rw c.code-then-branch-3.ensures (code_23 c.args.calls.now c.args.top
    (told has_no_such_model c.library-library.result.now c.args.calls.now c.args.models.now
    c.args.models.now c.args.top
    c.in_ok-has_no_such_model.field-0 false c.library-library.ensures refl
    c.in_ok-has_no_such_model.ensures c.requires.each
    c.if-branch.false)
    (sym c.in_ok-is_recursive.ensures ∙ c.if-branch-2.false)
    (told has_unknown_formal c.library-library.result.now c.args.calls.now c.args.models.now
    c.args.models.now c.args.top
    c.in_ok-has_unknown_formal.field-0 true c.library-library.ensures refl
    c.in_ok-has_unknown_formal.ensures c.requires.each
    c.if-branch-3.true))

pub returns-then-branch-4 : goal.returns-then-branch-4
returns-then-branch-4 c = rw c.code-then-branch-4.ensures (code_24 c.args.calls.now c.args.top
    (told has_no_such_model c.library-library.result.now c.args.calls.now c.args.models.now
    c.args.models.now c.args.top
    c.in_ok-has_no_such_model.field-0 false c.library-library.ensures refl
    c.in_ok-has_no_such_model.ensures c.requires.each
    c.if-branch.false)
    (sym c.in_ok-is_recursive.ensures ∙ c.if-branch-2.false)
    (told has_unknown_formal c.library-library.result.now c.args.calls.now c.args.models.now
    c.args.models.now c.args.top
    c.in_ok-has_unknown_formal.field-0 false c.library-library.ensures refl
    c.in_ok-has_unknown_formal.ensures c.requires.each
    c.if-branch-3.false)
    (told has_formal_twice c.library-library.result.now c.args.calls.now c.args.models.now
    c.args.models.now c.args.top
    c.in_ok-has_formal_twice.field-0 true c.library-library.ensures refl
    c.in_ok-has_formal_twice.ensures c.requires.each
    c.if-branch-4.true))

pub returns-then-branch-5 : goal.returns-then-branch-5
returns-then-branch-5 c = rw c.code-then-branch-5.ensures (code_25 c.args.calls.now c.args.top
    (told has_no_such_model c.library-library.result.now c.args.calls.now c.args.models.now
    c.args.models.now c.args.top
    c.in_ok-has_no_such_model.field-0 false c.library-library.ensures refl
    c.in_ok-has_no_such_model.ensures c.requires.each
    c.if-branch.false)
    (sym c.in_ok-is_recursive.ensures ∙ c.if-branch-2.false)
    (told has_unknown_formal c.library-library.result.now c.args.calls.now c.args.models.now
    c.args.models.now c.args.top
    c.in_ok-has_unknown_formal.field-0 false c.library-library.ensures refl
    c.in_ok-has_unknown_formal.ensures c.requires.each
    c.if-branch-3.false)
    (told has_formal_twice c.library-library.result.now c.args.calls.now c.args.models.now
    c.args.models.now c.args.top
    c.in_ok-has_formal_twice.field-0 false c.library-library.ensures refl
    c.in_ok-has_formal_twice.ensures c.requires.each
    c.if-branch-4.false)
    (told has_missing_formal c.library-library.result.now c.args.calls.now c.args.models.now
    c.args.models.now c.args.top
    c.in_ok-has_missing_formal.field-0 true c.library-library.ensures refl
    c.in_ok-has_missing_formal.ensures c.requires.each
    c.if-branch-5.true))

pub returns : goal.returns
returns c = record {
  models_there =
      (told has_no_such_model c.library-library.result.now c.args.calls.now c.args.models.now
      c.args.models.now c.args.top
      c.in_ok-has_no_such_model.field-0 false c.library-library.ensures refl
      c.in_ok-has_no_such_model.ensures c.requires.each
      c.if-branch.false);
  not_recursive = (sym c.in_ok-is_recursive.ensures ∙ c.if-branch-2.false);
  formals_known =
      (told has_unknown_formal c.library-library.result.now c.args.calls.now c.args.models.now
      c.args.models.now c.args.top
      c.in_ok-has_unknown_formal.field-0 false c.library-library.ensures refl
      c.in_ok-has_unknown_formal.ensures c.requires.each
      c.if-branch-3.false);
  formals_once =
      (told has_formal_twice c.library-library.result.now c.args.calls.now c.args.models.now
      c.args.models.now c.args.top
      c.in_ok-has_formal_twice.field-0 false c.library-library.ensures refl
      c.in_ok-has_formal_twice.ensures c.requires.each
      c.if-branch-4.false);
  inputs_given =
      (told has_missing_formal c.library-library.result.now c.args.calls.now c.args.models.now
      c.args.models.now c.args.top
      c.in_ok-has_missing_formal.field-0 false c.library-library.ensures refl
      c.in_ok-has_missing_formal.ensures c.requires.each
      c.if-branch-5.false);
}
