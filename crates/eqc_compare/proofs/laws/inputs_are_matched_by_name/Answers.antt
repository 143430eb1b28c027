use Rattle.eqc_compare.proofs.MatchedLemmas.{matched_value}
use Rattle.eqc_compare.proofs.laws.inputs_are_matched_by_name.Goals as goal

pub returns : goal.returns
returns c = matched_value
