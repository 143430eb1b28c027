use Rattle.eqc_compare.proofs.VerdictLemmas.{differs_where}
use Rattle.eqc_compare.proofs.laws.difference_is_of_values.Goals as goal

pub returns : goal.returns
returns c = differs_where
