use Rattle.eqc_core.proofs.Announcing as lemmas
use Rattle.eqc_core.proofs.laws.recheck_keeps.Goals as goal

pub returns : goal.returns
returns c = λ k z w hs vs id v law at on may room. lemmas.recheck_keeps z w hs vs id v law at on k
    may
