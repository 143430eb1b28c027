use Rattle.eqc_core.proofs.Claiming as lemmas
use Rattle.eqc_core.proofs.laws.claim_keeps.Goals as goal

pub returns : goal.returns
returns c = λ x z w hs vs id v law at on may room. lemmas.claim_keeps z w hs vs id v law at on x
    may.0 may.1
