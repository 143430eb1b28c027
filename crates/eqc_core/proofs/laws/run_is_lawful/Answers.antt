use Rattle.eqc_core.proofs.Runs.{run_is_lawful}
use Rattle.eqc_core.proofs.laws.run_is_lawful.Goals as goal

pub returns : goal.returns
returns c = λ z n es t limits fits few is. run_is_lawful z n es t limits fits few is
