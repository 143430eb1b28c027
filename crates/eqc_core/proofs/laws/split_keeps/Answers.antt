use Rattle.eqc_core.proofs.Splitting as lemmas
use Rattle.eqc_core.proofs.laws.split_keeps.Goals as goal

pub returns : goal.returns
returns c = λ z w hs vs id to v law at on may. lemmas.split_keeps z w hs vs id to v law at on may
