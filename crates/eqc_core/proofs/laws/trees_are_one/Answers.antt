use Rattle.eqc_core.proofs.Trees.{have_trees}
use Rattle.eqc_core.proofs.laws.trees_are_one.Goals as goal

pub returns : goal.returns
returns c = λ z w hs vs law. have_trees z w hs vs law
