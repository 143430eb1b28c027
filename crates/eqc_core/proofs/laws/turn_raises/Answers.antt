use Rattle.eqc_core.proofs.Collecting as lemmas
use Rattle.eqc_core.proofs.laws.turn_raises.Goals as goal

pub returns : goal.returns
returns c = λ s t k all turn. lemmas.turn_raises s t k all turn
