use Rattle.eqc_core.proofs.Claiming as lemmas
use Rattle.eqc_core.proofs.laws.unclaim_keeps.Goals as goal

pub returns : goal.returns
returns c = λ d z w hs vs id v law at on may room. lemmas.unclaim_keeps z w hs vs id v law at on d
    may
