use Rattle.eqc_core.proofs.Announcing as lemmas
use Rattle.eqc_core.proofs.laws.look_keeps.Goals as goal

pub returns : goal.returns
returns c = λ k cell z w hs vs id v law at on may room. lemmas.look_keeps z w hs vs id v law at on k
    cell may
