use Rattle.eqc_miter.proofs.MiterLaws.{allowed_found}
use Rattle.eqc_miter.proofs.allowing.is_never_allowed.Goals as goal

pub tells_vacuous-requires : goal.tells_vacuous-requires
tells_vacuous-requires c =
    allowed_found c.args.pair.now c.graph.result.now c.args.literal c.variables-variables.result.now
    c.in_ok-found.found c.variables-variables.ensures.lawful c.variables-variables.ensures.each
    (rw (c.graph.ensures, c.seen_true-seen.ensures) c.requires) c.in_ok-found.ensures.found
