use Rattle.eqc_core.proofs.Reclaiming as lemmas
use Rattle.eqc_core.proofs.laws.reclaim_keeps.Goals as goal

pub returns : goal.returns
returns c = λ x h z w hs vs id v law at on may room. lemmas.reclaim_keeps z w hs vs id v law at on x
    h may room
