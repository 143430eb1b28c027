use Rattle.eqc_core.proofs.Counting as lemmas
use Rattle.eqc_core.proofs.laws.up_keeps.Goals as goal

pub returns : goal.returns
returns c = λ x z w hs vs id v law at on may room. lemmas.up_keeps z w hs vs id v law at on x may
    room
