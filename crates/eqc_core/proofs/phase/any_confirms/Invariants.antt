use Rattle.std.proofs.Common.{◌≡◌, ◌<◌, ℕ, get_or}
use Rattle.eqc_core.specs.declared.phase.Phase.TheVariants.{Idle, Confirmed}
use Rattle.eqc_core.proofs.phase.any_confirms.Given as goal

-- none of those before confirms it
abbrev pub invariant-loop-phase : goal.invariant-loop-phase
invariant-loop-phase l = (k : ℕ) → k < l.phase-index → get_or l.phases k Idle ≡ Confirmed l.x → ⊥
