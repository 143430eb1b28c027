use Rattle.eqc_miter.proofs.MiterLaws.{allowed_as}
use Rattle.eqc_miter.proofs.allowing.tells_vacuous.Goals as goal

pub returns : goal.returns
returns c = allowed_as c.args.pair.now c.args.found c.in-Unknown.seen _ c.in-Unknown.is c.in-Some.is
    c.requires
