use Rattle.eqc_core.proofs.Wraps.{count_fits}
use Rattle.eqc_core.proofs.laws.no_count_wraps.Goals as goal

pub returns : goal.returns
returns c = λ z w hs vs x law two lt. count_fits z w hs vs x law two lt
