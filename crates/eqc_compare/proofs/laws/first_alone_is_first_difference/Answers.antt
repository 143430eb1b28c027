use Rattle.eqc_compare.proofs.VerdictLemmas.{first_alone}
use Rattle.eqc_compare.proofs.laws.first_alone_is_first_difference.Goals as goal

pub returns : goal.returns
returns c = first_alone
