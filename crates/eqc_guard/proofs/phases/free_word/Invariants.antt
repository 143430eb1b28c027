use Rattle.std.proofs.Common.{◌<◌, ℕ, get_or}
use Rattle.eqc_core.specs.declared.phase.Phase.TheVariants.{Idle}
use Rattle.eqc_core.specs.Moves.{IsQuiet}
use Rattle.eqc_guard.proofs.phases.free_word.Given as goal

-- those before, but the first, announce names
abbrev pub invariant-loop-k : goal.invariant-loop-k
invariant-loop-k l = (j : ℕ) → 0 < j → j < l.k → IsQuiet (get_or l.all j Idle) → ⊥
