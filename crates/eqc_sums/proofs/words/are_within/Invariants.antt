use Rattle.std.proofs.Common.{ℕ, ◌<◌, get_or}
use Rattle.eqc_xag.specs.Graph.{IsWithin}
use Rattle.eqc_sums.proofs.words.are_within.Given as goal

abbrev pub invariant-loop-literal : goal.invariant-loop-literal
invariant-loop-literal l = (k : ℕ) → k < l.literal-index → IsWithin l.graph (get_or l.literals k 0)
