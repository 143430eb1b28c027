use Rattle.std.specs.Prelude.{[]}
use Rattle.std.proofs.Common.{ap}
use Rattle.eqc_tree.specs.CodedTree.{first_of_all, read-spelled}
use Rattle.eqc_tree.proofs.laws.trees_are_read_back.Goals as goal

pub returns : goal.returns
returns c t = ap first_of_all (read-spelled t [] [])
