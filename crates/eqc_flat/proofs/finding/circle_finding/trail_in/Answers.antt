use Rattle.std.proofs.Common.{refl, arith, length}
use Rattle.eqc_flat.specs.Ordering.{IsTrailBelow}
use Rattle.std.proofs.lemmas.Result.{IfOk-weaker}
use Rattle.eqc_flat.proofs.CodeLaws.{driven_closed, few_drivers}
use Rattle.eqc_flat.proofs.FindingLaws.{numbered, circle_left}
use Rattle.eqc_flat.proofs.finding.circle_finding.trail_in.Goals as goal

pub drivers_of-requires-clause-few : goal.drivers_of-requires-clause-few
drivers_of-requires-clause-few c = (numbered c.args.hierarchy.now.0 c.args.hierarchy.now.1 28
    (omega arith) (omega arith) c.requires.refused).few

pub drivers_of-requires-clause-known : goal.drivers_of-requires-clause-known
drivers_of-requires-clause-known c = (numbered c.args.hierarchy.now.0 c.args.hierarchy.now.1 28
    (omega arith) (omega arith) c.requires.refused).formals_known

pub trail_of-requires-clause-few : goal.trail_of-requires-clause-few
trail_of-requires-clause-few c =
    few_drivers c.args.hierarchy.now.0 c.args.hierarchy.now.1 c.in-Ok.drivers
    (numbered c.args.hierarchy.now.0 c.args.hierarchy.now.1 28 (omega arith) (omega arith)
    c.requires.refused).small
    (rw c.in-Ok.is at c.drivers_of.ensures.driven)

pub trail_of-requires-clause-closed : goal.trail_of-requires-clause-closed
trail_of-requires-clause-closed c = driven_closed c.args.hierarchy.now.0 c.args.hierarchy.now.1
    c.in-Ok.drivers (length c.in-Ok.drivers) refl (rw c.in-Ok.is at c.drivers_of.ensures.driven)

pub trail_of-requires-clause-circular : goal.trail_of-requires-clause-circular
trail_of-requires-clause-circular c =
    circle_left c.args.hierarchy.now.0 c.args.hierarchy.now.1 c.in-Ok.drivers
    (numbered c.args.hierarchy.now.0 c.args.hierarchy.now.1 28 (omega arith) (omega arith)
    c.requires.refused)
    (rw c.in-Ok.is at c.drivers_of.ensures.driven)

pub returns : goal.returns
returns c =
    IfOk-weaker _ _ (λ trail. IsTrailBelow c.args.hierarchy.now.0 c.args.hierarchy.now.1
    trail.items)
    (λ trail is. (c.in-Ok.drivers, rw c.in-Ok.is at c.drivers_of.ensures.driven, is))
    c.trail_of.ensures
