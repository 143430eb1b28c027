use Rattle.eqc_core.proofs.Announcing as lemmas
use Rattle.eqc_core.proofs.laws.announce_keeps.Goals as goal

pub returns : goal.returns
returns c = λ k x z w hs vs id v law at on may room. lemmas.announce_keeps z w hs vs id v law at on
    k x may
