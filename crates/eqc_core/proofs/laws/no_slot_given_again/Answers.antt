use Rattle.eqc_core.proofs.Runs as lemmas
use Rattle.eqc_core.proofs.laws.no_slot_given_again.Goals as goal

pub returns : goal.returns
returns c = λ z n es t e limits fits few is may. lemmas.no_slot_given_again z n es t e limits fits
    few is may
