use Rattle.eqc_core.proofs.Locking as lemmas
use Rattle.eqc_core.proofs.laws.unlock_keeps.Goals as goal

pub returns : goal.returns
returns c = λ h t z w hs vs id v law at on may room. lemmas.unlock_keeps z w hs vs id v law at on h
    t may
