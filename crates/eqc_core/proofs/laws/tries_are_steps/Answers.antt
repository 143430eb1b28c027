use Rattle.eqc_core.proofs.Trying as lemmas
use Rattle.eqc_core.proofs.laws.tries_are_steps.Goals as goal

pub returns : goal.returns
returns c = λ s x h law bare hand has. lemmas.tries_are_steps s x h law bare hand has
