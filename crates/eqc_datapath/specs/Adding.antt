-- What is asked of words of outputs.
use Rattle.std.specs.Prelude.{◌≡◌, ℕ, ◌<◌, ◌≤◌, List, length, slice_index, Option, None}
use Rattle.eqc_xag.specs.declared.node.Node.{Node}
use Rattle.eqc_sweep.specs.Finding.{AreEqual}
use Rattle.eqc_build.specs.Steps.{StepsOf}
use Rattle.eqc_compare.specs.Comparing.{difference_at}
use Rattle.eqc_literals.specs.Literals.{IsInside}

-- two words of literals for the first outputs of a word, of which each never differs where its two
-- literals are equal
pub record AreAskedBy (g : StepsOf) (literals : List (Option ℕ)) (word ps qs : List ℕ) : Type 0
  where
    pub few : length ps ≤ length word
    pub same : length qs ≡ length ps
    pub each : (nodes : List Node) (k : ℕ) → IsInside g nodes literals → k < length ps
        → AreEqual nodes (slice_index ps k) (slice_index qs k)
        → difference_at g.pair (slice_index word k) ≡ None
