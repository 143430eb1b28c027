use Rattle.eqc_case.proofs.ChoiceProofs.{model_is_chosen}
use Rattle.eqc_case.proofs.laws.chosen_model_is_the_named_one.Goals as goal

pub returns : goal.returns
returns c = model_is_chosen
