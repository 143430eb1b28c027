-- One rule after another.
use Rattle.std.proofs.Common.{◌≡◌, ℕ, ◌+◌, ◌*◌, ◌/◌, ◌<◌, Bool, true, false, not, ◌&&◌, List}
use Rattle.std.proofs.Common.{length, refl, sym, ap, ◌∙◌, arith}
use Rattle.eqc_xag.specs.declared.node.Node.{Node}
use Rattle.eqc_xag.specs.declared.node.Node.TheVariants.{Constant, Input, And, Xor}
use Rattle.eqc_xag.specs.Graph.{literal_value, node_value, differ, IsWithin, IsBelow, IsGraph}
use Rattle.eqc_sweep.specs.declared.reduced.Reduced.{Reduced}
use Rattle.eqc_sweep.specs.declared.reduced.Reduced.TheVariants.{There, Absent}
use Rattle.eqc_sweep.specs.Gates.{not_both, Makes, AreOpposite, Excludes, Implies}
use Rattle.eqc_sweep.specs.Reducing.{StandsFor}
use Rattle.eqc_sweep.proofs.ConstantLemmas.{value_false, value_true}
use Rattle.eqc_sweep.proofs.BoolLemmas.{same_of_one, same_at, and_comm, differ_comm, and_true}
use Rattle.eqc_sweep.proofs.BoolLemmas.{excluded_first, excluded_second}

-- a node stands for itself
pub stands_itself : (nodes : List Node) (n : Node) → IsBelow (length nodes) n
    → StandsFor nodes n (Absent n)
stands_itself nodes n below = record { within = below; value = λ a. refl }

-- what stands for what stands for a node stands for the node
pub stands_along : (nodes : List Node) (n m : Node) (r : Reduced) → StandsFor nodes n (Absent m)
    → StandsFor nodes m r → StandsFor nodes n r
stands_along nodes n m r first second = record {
  within = second.within;
  value = λ a. second.value a
      ∙ first.value a;
}
