use Rattle.std.proofs.Common.{ℕ, ◌+◌, drop}
use Rattle.eqc_core.specs.State.{State}
use Rattle.eqc_core.specs.Run.{Runs, IsStoppedAt}
use Rattle.eqc_core.specs.Machine.{state_of, IsKept}
use Rattle.eqc_core.proofs.playback.run.Given as goal

-- what the rest of the events lead to, all lead to
abbrev pub invariant-loop-i : goal.invariant-loop-i
invariant-loop-i l = record {
  kept : IsKept l.machine;
  runs : (t : State) → Runs (state_of l.machine) (drop l.i l.events) t
      → Runs (state_of l.start) l.events t;
  stops : (k : ℕ) → IsStoppedAt (state_of l.machine) (drop l.i l.events) k
      → IsStoppedAt (state_of l.start) l.events (l.i + k);
}
