use Rattle.std.proofs.Common.{List, ℕ, length}
use Rattle.eqc_build.proofs.BuildLaws.{IsCompleting}
use Rattle.eqc_build.proofs.step_diagrams.StepDiagrams.complete.Given as goal

abbrev pub invariant-loop-step : goal.invariant-loop-step
invariant-loop-step g l =
    (made : List ℕ) × IsCompleting g.D.References.entry l.plan l.turn l.goals l.self.until.items
    (g.D.References.holding l.fn.d) l.fn.self.table
    l.fn.self.used.items (g.D.References.holding l.d) l.self.table l.self.used.items l.steps.items
    made

abbrev pub decreases-loop-step : goal.decreases-loop-step
decreases-loop-step g l = length l.steps.items
