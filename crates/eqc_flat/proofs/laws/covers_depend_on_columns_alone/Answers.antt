use Rattle.eqc_flat.proofs.InputLaws as inputs
use Rattle.eqc_flat.proofs.laws.covers_depend_on_columns_alone.Goals as goal

pub returns : goal.returns
returns c = inputs.covers_depend_on_columns_alone
