use Rattle.eqc_strash.proofs.ValueLaws.{equal_values}
use Rattle.eqc_strash.proofs.laws.equal_structures_have_equal_values.Goals as goal

pub returns : goal.returns
returns c = equal_values
