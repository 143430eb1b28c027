use Rattle.std.proofs.Common.{false, subst}
use Rattle.eqc_miter.specs.Asking.{TellsVacuous}
use Rattle.eqc_miter.proofs.MiterLaws.{tells_without}
use Rattle.eqc_fraig.proofs.inside.Inside.allows_none.Goals as goal

pub returns-in_default-clause-found : goal.returns-in_default-clause-found
returns-in_default-clause-found c = subst (λ p. TellsVacuous p false) c.self.view_is
    (tells_without c.self.inside.steps c.in_default.ensures)
