use Rattle.eqc_core.proofs.Reclaiming as lemmas
use Rattle.eqc_core.proofs.laws.reclaimed_is_free.Goals as goal

pub returns : goal.returns
returns c = λ z w hs vs id x v h law at on may. lemmas.reclaimed_is_free z w hs vs id v law at on x
    h may
