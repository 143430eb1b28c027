use Rattle.eqc_core.proofs.Known.{are_tabled}
use Rattle.eqc_core.proofs.laws.names_are_tabled.Goals as goal

pub returns : goal.returns
returns c = λ z w hs vs law. are_tabled z w hs vs law
