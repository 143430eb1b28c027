-- What literals of a graph tell of a pair.
use Rattle.std.specs.Prelude.{◌≡◌, ℕ, ◌<◌, true, Bool, List, length, Option, Some}
use Rattle.eqc_pair.specs.PairOf.{PairOf}
use Rattle.eqc_build.specs.Building.{reference_of}
use Rattle.eqc_build.specs.Steps.{StepsOf, AreSteps, steps_in, value_at}
use Rattle.eqc_build.specs.Turns.{is_marked}
use Rattle.eqc_xag.specs.declared.node.Node.{Node}
use Rattle.eqc_gates.specs.Entering.{AreLiterals}

-- two steps have one literal
pub record HaveOneLiteral (literals : List (Option ℕ)) (j k : ℕ) : Type 0 where
  pub literal : ℕ
  pub first : reference_of literals j ≡ Some literal
  pub second : reference_of literals k ≡ Some literal

-- steps of one literal have one value
pub record TellEqual (p : PairOf) (literals : List (Option ℕ)) : Type 0 where
  pub each : (j k : ℕ) (a : ℕ → Bool) → j < steps_in p → k < steps_in p
      → HaveOneLiteral literals j k → value_at p a j ≡ value_at p a k

-- what holds of steps that entered a graph with these nodes
pub record IsInside (g : StepsOf) (nodes : List Node) (literals : List (Option ℕ)) : Type 0 where
  pub lawful : AreSteps g
  pub values : AreLiterals g.pair nodes literals

-- outputs that were marked as equal are marked still
abbrev pub KeepsMarks : PairOf → List Bool → List Bool → Type 0
KeepsMarks p old new = (o : ℕ) → o < length p.first.outputs → is_marked old o ≡ true
    → is_marked new o ≡ true
