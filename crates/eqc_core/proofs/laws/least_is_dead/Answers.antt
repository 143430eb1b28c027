use Rattle.eqc_core.proofs.Collecting as lemmas
use Rattle.eqc_core.proofs.laws.least_is_dead.Goals as goal

pub returns : goal.returns
returns c = λ s k x law bare all tab least. lemmas.least_is_dead s k x law bare all tab least
