-- What a rule puts in place of a gate.
use Rattle.std.specs.Prelude.{◌≡◌, ℕ, Bool, List, length, Option, IfSome}
use Rattle.eqc_xag.specs.declared.node.Node.{Node}
use Rattle.eqc_xag.specs.declared.node.Node.TheVariants.{And}
use Rattle.eqc_xag.specs.Graph.{literal_value, node_value, IsWithin, IsBelow, IsGraph}
use Rattle.eqc_sweep.specs.declared.reduced.Reduced.{Reduced}
use Rattle.eqc_sweep.specs.declared.reduced.Reduced.TheVariants.{There, Absent}
use Rattle.eqc_sweep.specs.Gates.{Makes}

-- its literals are of the nodes
abbrev pub IsReducedWithin : List Node → Reduced → Type 0
IsReducedWithin nodes (There l) = IsWithin nodes l
IsReducedWithin nodes (Absent n) = IsBelow (length nodes) n

-- its value under an assignment
abbrev pub reduced_value : List Node → (ℕ → Bool) → Reduced → Bool
reduced_value nodes a (There l) = literal_value nodes a l
reduced_value nodes a (Absent n) = node_value a (literal_value nodes a) n

-- r may stand in place of the node: it has the same value under each assignment
pub record StandsFor (nodes : List Node) (n : Node) (r : Reduced) : Type 0 where
  pub within : IsReducedWithin nodes r
  pub value : (a : ℕ → Bool) → reduced_value nodes a r ≡ node_value a (literal_value nodes a) n

-- a rule for the conjunction of y with x, which f makes of p and q
abbrev pub HoldsWith : (Bool → Bool → Bool) → (x p q y : ℕ) → Option Reduced → Type 0
HoldsWith f x p q y r = (nodes : List Node) → IsGraph nodes → IsWithin nodes x → IsWithin nodes y
    → Makes f nodes x p q → IfSome r (StandsFor nodes (And x y))

-- a rule for the conjunction of x, which f makes of p and q, with y, which g makes of r and s
abbrev pub HoldsFor : (f g : Bool → Bool → Bool) → (x p q y r s : ℕ) → Option Reduced → Type 0
HoldsFor f g x p q y r s found = (nodes : List Node) → IsGraph nodes → IsWithin nodes x
    → IsWithin nodes y → Makes f nodes x p q → Makes g nodes y r s
    → IfSome found (StandsFor nodes (And x y))
