use Rattle.std.proofs.Common.{length}
use Rattle.eqc_compare.specs.Verdict.{differs_under}
use Rattle.eqc_compare.proofs.LeastLemmas.{found_least, least_found}
use Rattle.eqc_compare.proofs.laws.least_difference_is_least.Goals as goal

pub returns : goal.returns
returns c = λ f g h output a. (
  found_least (length f.inputs) (differs_under f g h output) a,
  least_found (length f.inputs) (differs_under f g h output) a,
)
