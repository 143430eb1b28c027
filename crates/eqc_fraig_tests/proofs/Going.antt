-- Literals of a graph that goes on. Helpers of the tests
use Rattle.std.proofs.Common.{ℕ, List, arith}
use Rattle.eqc_xag.specs.declared.node.Node.{Node}
use Rattle.eqc_xag.specs.Graph.{IsWithin, Extends}

-- they stay
pub on : (l : ℕ) (old new : List Node) → Extends old new → IsWithin old l → IsWithin new l
on l old new more within = omega (arith, more.longer, within)
