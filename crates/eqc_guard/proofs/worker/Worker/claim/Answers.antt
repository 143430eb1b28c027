use Rattle.std.proofs.Common.{if◌then◌else◌, subst}
use Rattle.eqc_core.specs.View.{View}
use Rattle.eqc_guard.specs.Standing.{Steps}
use Rattle.eqc_guard.proofs.Trying.{spotted_free, count_on}
use Rattle.eqc_guard.proofs.worker.Worker.claim.Goals as goal

pub returns-clause-copies : goal.returns-clause-copies
returns-clause-copies c =
    let old = c.args.self.now in
    let mid = c.spot.new.self in
    let t = c.try_claim.ensures.copies in
    let loads : Steps old old.known.core mid = subst (λ (v : View). Steps old v mid)
    (spotted_free old.known.core c.args.x c.spot.result c.if-spot-ne0.false) c.spot.ensures.step
    in (
      t.0,
      t.1,
      count_on old mid c.try_claim.new.self c.args.x c.spot.result t.0
          (if c.try_claim.result then 2 else t.0) loads c.spot.ensures.copies t.2,
    )
