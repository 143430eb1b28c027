use Rattle.std.specs.Prelude.{◌≡◌, ◌-◌, length}
use Rattle.eqc_build.specs.Turns.{AreKept}
use Rattle.eqc_parallel.specs.Verdicts.{asked, IsWork}
use Rattle.eqc_parallel.proofs.share.draw_all.Given as goal

abbrev pub invariant-loop-number : goal.invariant-loop-number
invariant-loop-number g l =
    IsWork (asked l.fn.comparison.pair.now l.fn.comparison.task.now.schedule.every)
    l.fn.comparison.words.now.table_id l.least l.behind l.seat l.verdicts.items
    × (l.outputs ≡ length l.fn.comparison.pair.now.first.outputs)
    × AreKept g.D.References.entry l.fn.comparison.pair.now (g.D.References.holding
    l.member.diagrams) l.member.kept.table

abbrev pub decreases-loop-number : goal.decreases-loop-number
decreases-loop-number g l = l.outputs - l.least
