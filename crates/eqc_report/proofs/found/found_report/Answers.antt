use Rattle.std.proofs.Common.{rules, ◌≡◌, ◌∙◌, sym, ap, subst, length, vec_len, eq-eqb, true≢false}
use Rattle.eqc_compare.specs.Comparing.{IsOutcome}
use Rattle.eqc_compare.specs.declared.outcome.Outcome.TheVariants.{Compared}
use Rattle.eqc_report.proofs.FoundLaws.{outcome_found, some_reported}
use Rattle.eqc_report.proofs.found.found_report.Goals as goal

pub all_shown-requires : goal.all_shown-requires
all_shown-requires c =
    let is = subst (IsOutcome c.args.pair.now c.args.every) c.in-Compared.is c.requires in
    record { each = outcome_found c.args.pair.now c.args.every (Compared c.in-Compared.found) is }

pub returns-in-Ok-clause-report : goal.returns-in-Ok-clause-report
returns-in-Ok-clause-report c =
    let found = c.in-Compared.found in
    let is = subst (IsOutcome c.args.pair.now c.args.every) c.in-Compared.is c.requires in
    some_reported c.args.pair.now c.args.every found _ is
    (λ e.
    let size : length found.items ≡ vec_len found = search rules in
    let none : vec_len found ≡ 0 = sym size ∙ ap length e in
    true≢false (sym (eq-eqb (vec_len found) 0 none) ∙ (sym c.is_empty.ensures
    ∙ c.if-is_empty.false)))
    c.in-Ok.ensures
