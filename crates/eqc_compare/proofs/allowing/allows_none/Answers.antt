use Rattle.std.proofs.Common.{sym, subst}
use Rattle.eqc_build.specs.Schedule.{AreWithin}
use Rattle.eqc_build.proofs.StepLaws.{assumed_root_within}
use Rattle.eqc_compare.proofs.AllowingLaws.{never_told, not_without}
use Rattle.eqc_compare.proofs.allowing.allows_none.Goals as goal

pub returns-in_default-clause-none : goal.returns-in_default-clause-none
returns-in_default-clause-none g c =
    rw c.each-steps.ensures.pair at (not_without c.each-steps.result c.in_default.ensures)

pub plan_below-requires : goal.plan_below-requires
plan_below-requires g c =
    record {
      within = subst (AreWithin c.each-steps.result) (sym c.in-Some.ensures)
          (assumed_root_within c.each-steps.result c.len-count.ensures.lawful);
    }

pub returns-clause-none : goal.returns-clause-none
returns-clause-none g c =
    let lawful = c.len-count.ensures.lawful in
    let never = rw c.in_ok-plan.ensures.steps at c.is_never_built.ensures.never in
    rw c.each-steps.ensures.pair at (never_told c.each-steps.result c.in-Some.root
    c.is_never_built.result lawful c.in-Some.ensures never)
