use Rattle.std.proofs.Common.{◌≡◌, ◌<◌, ℕ, None, length, get_or}
use Rattle.eqc_build.specs.Building.{Moves, reference_of}
use Rattle.eqc_build.proofs.step_diagrams.StepDiagrams.clear.Given as goal

abbrev pub invariant-loop-s : goal.invariant-loop-s
invariant-loop-s g l =
    Moves g.D.References.entry (g.D.References.holding l.fn.d) l.fn.self.table
    (g.D.References.holding l.d)
    l.self.table × (length l.self.table ≡ length l.fn.self.table)
    × ((i : ℕ) → i < l.s → reference_of l.self.table i ≡ None)
    × ((i : ℕ) → get_or l.self.used.items i 0 ≡ 0)
