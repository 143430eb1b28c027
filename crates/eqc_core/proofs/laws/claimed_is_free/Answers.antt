use Rattle.eqc_core.proofs.Claiming as lemmas
use Rattle.eqc_core.proofs.laws.claimed_is_free.Goals as goal

pub returns : goal.returns
returns c = λ z w hs vs x law two lt wins. lemmas.claimed_is_free z w hs vs x law two lt wins
