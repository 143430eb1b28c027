use Rattle.std.proofs.Common.{sym, subst}
use Rattle.eqc_place.specs.Places.{AreProved}
use Rattle.eqc_place.proofs.AllowedLaws.{proved_everywhere}
use Rattle.eqc_place.proofs.locating.Locator.within.Goals as goal

pub invariant_of-result : goal.invariant_of-result
invariant_of-result c =
    let p = c.args.steps.pair in
    let everywhere = proved_everywhere p c.literals.new.sweep c.in_ok-literals.literals.items
    c.in_ok-literals.ensures.literals in (
      subst (AreProved p) (sym c.in_ok-everywhere.ensures) everywhere,
      subst (AreProved p) (sym c.in_ok-where_allowed.ensures) c.in_ok-allowed.ensures,
    )
