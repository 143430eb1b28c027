use Rattle.eqc_core.proofs.Collecting as lemmas
use Rattle.eqc_core.proofs.laws.no_dead_is_empty.Goals as goal

pub returns : goal.returns
returns c = λ s law bare dead. lemmas.no_dead_is_empty s law bare dead
