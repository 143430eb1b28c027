use Rattle.eqc_literals.proofs.MovingLaws.{moved_value}
use Rattle.eqc_literals.proofs.moving.moved_one.Goals as goal

pub returns : goal.returns
returns c = λ old new f copies is.
    moved_value old new c.in_ok-literal.literal f c.copied.result
    (rw c.in_ok-literal.was at is) (c.copied.ensures old new copies)
