use Rattle.eqc_core.proofs.Locking as lemmas
use Rattle.eqc_core.proofs.laws.look_box_keeps.Goals as goal

pub returns : goal.returns
returns c = λ box z w hs vs id v law at on may room. lemmas.lock_lost_keeps z w hs vs id v law at
