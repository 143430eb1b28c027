use Rattle.eqc_compare.proofs.VerdictLemmas.{each_difference}
use Rattle.eqc_compare.proofs.laws.differences_are_each.Goals as goal

pub returns : goal.returns
returns c = each_difference
