use Rattle.eqc_compare.proofs.VerdictLemmas.{none_allowed, each_forbidden}
use Rattle.eqc_compare.proofs.laws.vacuous_where_none_is_allowed.Goals as goal

pub returns : goal.returns
returns c = λ f h. (each_forbidden f h, none_allowed f h)
