use Rattle.eqc_flat.proofs.InputLaws as inputs
use Rattle.eqc_flat.proofs.laws.values_depend_on_inputs_alone.Goals as goal

pub returns : goal.returns
returns c = inputs.values_depend_on_inputs_alone
