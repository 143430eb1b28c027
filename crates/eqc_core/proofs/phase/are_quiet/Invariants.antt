use Rattle.std.proofs.Common.{◌<◌, ℕ, get_or}
use Rattle.eqc_core.specs.declared.phase.Phase.TheVariants.{Idle}
use Rattle.eqc_core.specs.Moves.{IsQuiet}
use Rattle.eqc_core.proofs.phase.are_quiet.Given as goal

-- those before are quiet
abbrev pub invariant-loop-phase : goal.invariant-loop-phase
invariant-loop-phase l = (k : ℕ) → k < l.phase-index → IsQuiet (get_or l.phases k Idle)
