use Rattle.eqc_compare.proofs.VerdictLemmas.{never_found, never_differs}
use Rattle.eqc_compare.proofs.laws.least_difference_is_none_where_equal.Goals as goal

pub returns : goal.returns
returns c = λ f g h output. (never_differs f g h output, never_found f g h output)
