use Rattle.eqc_compare.proofs.VerdictLemmas.{none_ever_differs, none_is_found}
use Rattle.eqc_compare.proofs.laws.first_difference_is_none_where_equal.Goals as goal

pub returns : goal.returns
returns c = λ f g h outputs. (none_ever_differs f g h outputs, none_is_found f g h outputs)
