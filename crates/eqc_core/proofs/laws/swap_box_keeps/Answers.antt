use Rattle.eqc_core.proofs.Sharing as lemmas
use Rattle.eqc_core.proofs.laws.swap_box_keeps.Goals as goal

pub returns : goal.returns
returns c = λ box word z w hs vs id v law at on may room. lemmas.swap_box_keeps z w hs vs id v law
    at on box word may room
