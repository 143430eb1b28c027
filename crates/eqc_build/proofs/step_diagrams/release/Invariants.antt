use Rattle.std.proofs.Common.{◌≡◌}
use Rattle.eqc_build.specs.Building.{Releases}
use Rattle.eqc_build.proofs.step_diagrams.release.Given as goal

abbrev pub invariant-loop-k : goal.invariant-loop-k
invariant-loop-k g l =
    Releases g.D.References.entry (g.D.References.holding l.fn.d) l.fn.kept.table
    (g.D.References.holding l.d) l.kept.table l.plan
    l.fn.kept.used.items l.fn.kept.until.items l.at × (l.kept.used.items ≡ l.fn.kept.used.items)
    × (l.kept.until.items ≡ l.fn.kept.until.items)
