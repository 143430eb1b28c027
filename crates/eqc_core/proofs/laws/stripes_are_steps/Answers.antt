use Rattle.eqc_core.proofs.Trying as lemmas
use Rattle.eqc_core.proofs.laws.stripes_are_steps.Goals as goal

pub returns : goal.returns
returns c = (
  (λ s i t law bare may home. lemmas.stripe_taken s i t law bare may.0 may.1 home),
  (λ s h t law bare may. lemmas.stripe_put s h t law bare may),
)
