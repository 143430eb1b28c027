-- What a replay answers where it has no state, and the sizes that it takes.
use Rattle.std.specs.Prelude.{ℕ, ◌≤◌, List}
use Rattle.eqc_core.specs.declared.event.Event.{Event}
use Rattle.eqc_core.specs.declared.playback.ReplayFault.{ReplayFault}
use Rattle.eqc_core.specs.declared.playback.ReplayFault.TheVariants.{Size, Memory, Event as AtEvent}
use Rattle.eqc_core.specs.State.{State}
use Rattle.eqc_core.specs.Run.{IsStoppedAt}

-- the first event that is not allowed, or want of memory
abbrev pub StopsWith : State → List Event → ReplayFault → Type 0
StopsWith s es Size = ⊥
StopsWith s es Memory = Unit {0}
StopsWith s es (AtEvent i) = IsStoppedAt s es i

-- 1 to 8 workers, 1 to 16 nodes, 1 to 16 cells
pub record IsSmall (workers nodes cells : ℕ) : Type 0 where
  pub some_workers : 1 ≤ workers
  pub few_workers : workers ≤ 8
  pub some_nodes : 1 ≤ nodes
  pub few_nodes : nodes ≤ 16
  pub some_cells : 1 ≤ cells
  pub few_cells : cells ≤ 16

-- no state: the sizes are refused exactly where they are not small
abbrev pub NoStock : ℕ → ℕ → ℕ → ReplayFault → Type 0
NoStock workers nodes cells Size = IsSmall workers nodes cells → ⊥
NoStock workers nodes cells Memory = IsSmall workers nodes cells
NoStock workers nodes cells (AtEvent i) = ⊥
