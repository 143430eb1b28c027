use Rattle.std.proofs.Common.{length}
use Rattle.eqc_compare.specs.Verdict.{differs_under}
use Rattle.eqc_compare.proofs.LeastLemmas.{least_unique}
use Rattle.eqc_compare.proofs.laws.least_difference_is_unique.Goals as goal

pub returns : goal.returns
returns c = λ f g h output. least_unique (length f.inputs) (differs_under f g h output)
