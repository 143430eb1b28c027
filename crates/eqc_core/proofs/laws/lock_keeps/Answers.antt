use Rattle.eqc_core.proofs.Locking as lemmas
use Rattle.eqc_core.proofs.laws.lock_keeps.Goals as goal

pub returns : goal.returns
returns c = λ i t z w hs vs id v law at on may room. lemmas.lock_keeps z w hs vs id v law at on i t
    may.0.0 may.0.1 may.1
