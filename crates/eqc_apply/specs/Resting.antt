-- That nothing is announced is a fact: there is one proof of it at most.
use mathlib.Core.Path.{refl}
use Rattle.eqc_core.specs.declared.phase.Phase.{Phase}
use Rattle.eqc_core.specs.declared.phase.Phase.TheVariants.{Idle, Seen, Announced, Confirmed}
use Rattle.eqc_core.specs.declared.phase.Phase.TheVariants.{Missed}
use Rattle.eqc_core.specs.Moves.{IsQuiet}

pub quiet_prop : (p : Phase) → IsProp (IsQuiet p)
quiet_prop Idle x y = refl
quiet_prop (Seen c word) x y = refl
quiet_prop (Announced c word) x y = absurd x
quiet_prop (Confirmed n) x y = absurd x
quiet_prop (Missed n) x y = absurd x
