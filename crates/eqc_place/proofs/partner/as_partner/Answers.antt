use Rattle.std.proofs.Common.{sym}
use Rattle.eqc_place.proofs.PlaceLaws.{equal_partner}
use Rattle.eqc_place.proofs.partner.as_partner.Goals as goal

pub returns-then-x-y : goal.returns-then-x-y
returns-then-x-y c =
    λ p proved.
    equal_partner p c.args.literals.now c.args.step c.args.other c.in_ok-x.x c.in_ok-y.y proved
    (sym c.in_ok-x.ensures) (sym c.in_ok-y.ensures) c.if-x-y.true
