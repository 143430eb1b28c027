use Rattle.std.proofs.Common.{refl, length, inr}
use Rattle.eqc_flat.proofs.CodeLaws.{driver_code, circular, driven_closed, few_drivers}
use Rattle.eqc_flat.proofs.flattening.ordered_drivers.Goals as goal

pub returns-in-Err-clause-refused : goal.returns-in-Err-clause-refused
returns-in-Err-clause-refused c =
    let library = c.args.hierarchy.now.0 in
    let top = c.args.hierarchy.now.1 in
    driver_code library top c.in-Err.fault.code (rw c.in-Err.is at c.drivers_of.ensures.refused)

pub order_of-requires-clause-few : goal.order_of-requires-clause-few
order_of-requires-clause-few c = few_drivers c.args.hierarchy.now.0 c.args.hierarchy.now.1
    c.in-Ok.drivers c.requires.numbered.small (rw c.in-Ok.is at c.drivers_of.ensures.driven)

pub order_of-requires-clause-closed : goal.order_of-requires-clause-closed
order_of-requires-clause-closed c = driven_closed c.args.hierarchy.now.0 c.args.hierarchy.now.1
    c.in-Ok.drivers (length c.in-Ok.drivers) refl (rw c.in-Ok.is at c.drivers_of.ensures.driven)

pub returns-in_default-clause-refused : goal.returns-in_default-clause-refused
returns-in_default-clause-refused c =
    let library = c.args.hierarchy.now.0 in
    let top = c.args.hierarchy.now.1 in
    rw c.of.ensures
    (inr (circular library top c.in-Ok.drivers
    (rw c.in-Ok.is at c.drivers_of.ensures.driven) (rw c.in_default.is at c.in_ok-steps.ensures)))

pub returns-clause-ordered : goal.returns-clause-ordered
returns-clause-ordered c = (
  rw c.in-Ok.is at c.drivers_of.ensures.driven,
  rw c.in-Some.is at c.in_ok-steps.ensures,
)
