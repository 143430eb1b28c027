use Rattle.std.proofs.Common.{ℕ, ◌<◌, get_or}
use Rattle.eqc_xag.specs.Graph.{IsWithin}
use Rattle.eqc_rup.proofs.check.are_within.Given as goal

-- the literals so far are within
abbrev pub invariant-loop-l : goal.invariant-loop-l
invariant-loop-l l = (i : ℕ) → i < l.l-index → IsWithin l.graph (get_or l.clause i 0)
