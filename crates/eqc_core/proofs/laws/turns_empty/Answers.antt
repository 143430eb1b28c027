use Rattle.eqc_core.proofs.Collecting as lemmas
use Rattle.eqc_core.proofs.laws.turns_empty.Goals as goal

pub returns : goal.returns
returns c = λ s turns n law past. lemmas.turns_empty s turns n law past
