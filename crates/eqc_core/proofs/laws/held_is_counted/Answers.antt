use Rattle.eqc_core.proofs.Known.{held_counted}
use Rattle.eqc_core.proofs.laws.held_is_counted.Goals as goal

pub returns : goal.returns
returns c = λ z w hs vs id x v law at has. held_counted z w hs vs law id x v at has
