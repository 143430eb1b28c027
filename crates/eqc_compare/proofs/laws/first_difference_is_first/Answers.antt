use Rattle.eqc_compare.proofs.VerdictLemmas.{found_is_first, first_is_found}
use Rattle.eqc_compare.proofs.laws.first_difference_is_first.Goals as goal

pub returns : goal.returns
returns c = λ f g h outputs output a. (
  found_is_first f g h outputs output a,
  first_is_found f g h outputs output a,
)
